-- What each act does to a device.
use Rattle.std.proofs.Common.{◌≡◌, ℕ, ◌+◌, ◌-◌, ◌≤◌, ◌==◌, ◌≢◌, ◌⊎◌, ⊎_elim, ◌&&◌, nat_le, if◌then◌else◌, Bool, true, false, List, [], ◌∷◌, ◌++◌, length, take, drop, replicate, Option, refl, subst, sym, ◌∙◌, ap, arith, append_assoc, length-append}
use Rattle.std.proofs.lemmas.Bool.Decides.{nat_tests}
use Rattle.std.proofs.lemmas.List.{take_at, drop_at, drop-drop, length-take-le, append-nil}
use Rattle.spool_plant.specs.View.{Disk, slice}
use Rattle.spool_plant.specs.Acts.{DiffersIn, Dirtied}
use Rattle.spool_disk.specs.Deeds.{Deed, Idle, Wrote, Synced, Said, Passed, Renewed, overwrite, effect, gather, lines_of, same_side, moved}
use Rattle.spool_disk.specs.DeedLaws.{length-overwrite}
use Rattle.spool_disk.specs.State.{shown}
use Rattle.spool_disk.proofs.Acting.{same_test, other_test}

-- bytes put over others
pub overwritten : (at : ℕ) (bytes old : List ℕ) → at + length bytes ≤ length old → overwrite at bytes old ≡ take at old ++ bytes ++ drop (at + length bytes) old
overwritten at bytes old fits = let t : nat_le (at + length bytes) (length old) ≡ true = grind (arith, nat_tests) in rw t refl

take_over : (at : ℕ) (bytes old : List ℕ) → at + length bytes ≤ length old → take at (take at old ++ bytes ++ drop (at + length bytes) old) ≡ take at old
take_over at bytes old fits =
    let long : length (take at old) ≡ at = length-take-le at old (omega arith) in
    ap (take at) (append_assoc (take at old) bytes (drop (at + length bytes) old)) ∙ take_at (take at old) (bytes ++ drop (at + length bytes) old) at long

drop_over : (at : ℕ) (bytes old : List ℕ) → at + length bytes ≤ length old → drop (at + length bytes) (take at old ++ bytes ++ drop (at + length bytes) old) ≡ drop (at + length bytes) old
drop_over at bytes old fits =
    let long : length (take at old) ≡ at = length-take-le at old (omega arith) in
    drop_at (take at old ++ bytes) (drop (at + length bytes) old) (at + length bytes) (omega (arith, long, length-append (take at old) bytes))

slice_over : (at : ℕ) (bytes old : List ℕ) → at + length bytes ≤ length old → slice at (length bytes) (take at old ++ bytes ++ drop (at + length bytes) old) ≡ bytes
slice_over at bytes old fits =
    let long : length (take at old) ≡ at = length-take-le at old (omega arith) in
    ap (take (length bytes)) (ap (drop at) (append_assoc (take at old) bytes (drop (at + length bytes) old)) ∙ drop_at (take at old) (bytes ++ drop (at + length bytes) old) at long)
    ∙ take_at bytes (drop (at + length bytes) old) (length bytes) refl

pub differs_over : (at len : ℕ) (bytes old : List ℕ) → at + length bytes ≤ length old → length bytes ≤ len → DiffersIn at len old (overwrite at bytes old)
differs_over at len bytes old fits few =
    let is = overwritten at bytes old fits in
    record {
      size = length-overwrite at bytes old;
      before = ap (take at) is ∙ take_over at bytes old fits;
      after = further at len (length bytes) old (overwrite at bytes old) few (ap (drop (at + length bytes)) is ∙ drop_over at bytes old fits);
    }
  where
    further : (at len k : ℕ) (old new : List ℕ) → k ≤ len → drop (at + k) new ≡ drop (at + k) old → drop (at + len) new ≡ drop (at + len) old
    further at len k old new le same =
        let e : at + len ≡ (at + k) + (len - k) = omega arith in
        ap (λ (n : ℕ). drop n new) e ∙ sym (drop-drop (len - k) (at + k) new) ∙ ap (drop (len - k)) same ∙ drop-drop (len - k) (at + k) old ∙ sym (ap (λ (n : ℕ). drop n old) e)

pub slice_put : (at : ℕ) (bytes old : List ℕ) → at + length bytes ≤ length old → slice at (length bytes) (overwrite at bytes old) ≡ bytes
slice_put at bytes old fits = ap (slice at (length bytes)) (overwritten at bytes old fits) ∙ slice_over at bytes old fits

-- the effect at the device itself, and at others
pub effect_there : (slot at len : ℕ) (bytes : List ℕ) (d : Disk) → effect slot d (Wrote slot at len bytes) ≡ record { bytes = overwrite at bytes d.bytes; unsynced = record { from = at; len = len } ∷ d.unsynced; lost = d.lost }
effect_there slot at len bytes d = rw (same_test slot) refl

pub sync_there : (slot : ℕ) (d : Disk) → effect slot d (Synced slot) ≡ record { bytes = d.bytes; unsynced = []; lost = d.lost }
sync_there slot d = rw (same_test slot) refl

pub effect_else : (slot s at len : ℕ) (bytes : List ℕ) (d : Disk) → (s ≡ slot → ⊥) → effect slot d (Wrote s at len bytes) ≡ d
effect_else slot s at len bytes d ne = rw (other_test s slot ne) refl

pub sync_else : (slot s : ℕ) (d : Disk) → (s ≡ slot → ⊥) → effect slot d (Synced s) ≡ d
sync_else slot s d ne = rw (other_test s slot ne) refl

pub wrote_dirtied : (slot at len : ℕ) (bytes : List ℕ) (d : Disk) (lost : Bool) → at + length bytes ≤ length d.bytes → length bytes ≤ len
    → Dirtied at len (shown d lost) (shown (effect slot d (Wrote slot at len bytes)) lost)
wrote_dirtied slot at len bytes d lost fits few =
    subst (λ (x : Disk). Dirtied at len (shown d lost) (shown x lost)) (sym (effect_there slot at len bytes d))
    (record { differs = differs_over at len bytes d.bytes fits few; unsynced = refl })

pub wrote_bytes : (slot at len : ℕ) (bytes : List ℕ) (d : Disk) → (effect slot d (Wrote slot at len bytes)).bytes ≡ overwrite at bytes d.bytes
wrote_bytes slot at len bytes d = ap (λ (x : Disk). x.bytes) (effect_there slot at len bytes d)

pub sync_bytes : (slot : ℕ) (d : Disk) → (effect slot d (Synced slot)).bytes ≡ d.bytes
sync_bytes slot d = ap (λ (x : Disk). x.bytes) (sync_there slot d)

pub sync_unsynced : (slot : ℕ) (d : Disk) → (effect slot d (Synced slot)).unsynced ≡ []
sync_unsynced slot d = ap (λ (x : Disk). x.unsynced) (sync_there slot d)

-- an act that is of one device alone
abbrev pub IsOf : ℕ → Deed → Type 0
IsOf s e = (slot : ℕ) (d : Disk) → (s ≡ slot → ⊥) → effect slot d e ≡ d

pub wrote_is_of : (s at len : ℕ) (bytes : List ℕ) → IsOf s (Wrote s at len bytes)
wrote_is_of s at len bytes slot d ne = effect_else slot s at len bytes d ne

pub sync_is_of : (s : ℕ) → IsOf s (Synced s)
sync_is_of s slot d ne = sync_else slot s d ne

-- an act that changes no device, moves nothing on a wire, and puts lines on one place alone
pub record IsLineOf (place : ℕ) (e : Deed) : Type 0 where
  pub disks : (slot : ℕ) (d : Disk) → effect slot d e ≡ d
  pub elsewhere : (p : ℕ) → (place ≡ p → ⊥) → lines_of p (e ∷ []) ≡ []
  pub wires : (side : Bool) (w m : ℕ) → gather (moved side w m) (e ∷ []) ≡ []

pub idle_is_line : (place : ℕ) → IsLineOf place Idle
idle_is_line place = record { disks = λ slot d. refl; elsewhere = λ p ne. refl; wires = λ side w m. refl }

pub said_is_line : (place : ℕ) (text : List ℕ) (whole : Bool) → IsLineOf place (Said place text whole)
said_is_line place text whole = record {
  disks = λ slot d. refl;
  elsewhere = λ p ne. ap (λ (b : Bool). (if b then record { text = text; whole = whole } ∷ [] else []) ++ []) (other_test place p ne);
  wires = λ side w m. refl;
}

pub line_there : (place : ℕ) (text : List ℕ) (whole : Bool) → lines_of place (Said place text whole ∷ []) ≡ record { text = text; whole = whole } ∷ []
line_there place text whole = ap (λ (b : Bool). (if b then record { text = text; whole = whole } ∷ [] else []) ++ []) (same_test place)

-- bytes on a wire
same_side_test : (side : Bool) → same_side side side ≡ true
same_side_test true = refl
same_side_test false = refl

pub moved_there : (side : Bool) (wire member : ℕ) (bytes : List ℕ) → gather (moved side wire member) (Passed side wire member bytes ∷ []) ≡ bytes
moved_there side wire member bytes =
    let test : (same_side side side && (wire == wire && member == member)) ≡ true =
    ap (λ (b : Bool). b && (wire == wire && member == member)) (same_side_test side) ∙ ap (λ (b : Bool). b && member == member) (same_test wire) ∙ same_test member in
    ap (λ (b : Bool). (if b then bytes else []) ++ []) test ∙ append-nil bytes

pub moved_else : (side : Bool) (wire member w m : ℕ) (bytes : List ℕ) → (w ≢ wire) ⊎ (m ≢ member) → gather (moved side w m) (Passed side wire member bytes ∷ []) ≡ []
moved_else side wire member w m bytes ne =
    ap (λ (b : Bool). (if b then bytes else []) ++ []) (⊎_elim (λ other. first (same_side side side) (wire == w) (member == m) (other_test wire w (λ same. other (sym same)))) (λ other. second (same_side side side) (wire == w) (member == m) (other_test member m (λ same. other (sym same)))) ne)
  where
    first : (a b c : Bool) → b ≡ false → (a && (b && c)) ≡ false
    first true false c e = refl
    first false b c e = refl
    first true true c e = absurd (cc)

    second : (a b c : Bool) → c ≡ false → (a && (b && c)) ≡ false
    second true true false e = refl
    second true false c e = refl
    second false b c e = refl
    second true true true e = absurd (cc)

pub moved_other : (other side : Bool) (wire member w m : ℕ) (bytes : List ℕ) → same_side other side ≡ false → gather (moved other w m) (Passed side wire member bytes ∷ []) ≡ []
moved_other other side wire member w m bytes ne = ap (λ (b : Bool). (if b && (wire == w && member == m) then bytes else []) ++ []) ne

-- a renewal puts another device in a device's place
pub renew_there : (slot : ℕ) (since : Option ℕ) (d : Disk) → effect slot d (Renewed slot since) ≡ record { bytes = replicate (length d.bytes) 0; unsynced = []; lost = d.lost }
renew_there slot since d = rw (same_test slot) refl

pub renew_is_of : (s : ℕ) (since : Option ℕ) → IsOf s (Renewed s since)
renew_is_of s since slot d ne = rw (other_test s slot ne) refl
