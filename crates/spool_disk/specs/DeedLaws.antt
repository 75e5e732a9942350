-- Laws of what acts come to.
use Rattle.std.proofs.Common.{◌≡◌, ℕ, ◌+◌, ◌≤◌, ◌==◌, Bool, true, false, if◌then◌else◌, List, [], ◌∷◌, ◌++◌, length, take, drop, replicate, append_assoc, refl, sym, ◌∙◌, ap, arith, nat_le}
use Rattle.std.proofs.lemmas.List.{length-replicate}
use Rattle.std.proofs.lemmas.Bool.Decides.{nat_tests}
use Rattle.std.proofs.lemmas.Grind.{common_steps}
use Rattle.spool_plant.specs.View.{Disk}
use Rattle.spool_disk.specs.Deeds.{Deed, Idle, Wrote, Synced, Said, Passed, Fetched, Renewed, overwrite, effect, after, gather}

pub after_push : (slot : ℕ) (d : Disk) (es : List Deed) (e : Deed)
    → after slot d (es ++ e ∷ []) ≡ effect slot (after slot d es) e
after_push slot d [] e = refl
after_push slot d (f ∷ es) e = after_push slot (effect slot d f) es e

pub after_append : (slot : ℕ) (d : Disk) (es fs : List Deed) → after slot d (es ++ fs) ≡ after slot (after slot d es) fs
after_append slot d [] fs = refl
after_append slot d (e ∷ es) fs = after_append slot (effect slot d e) es fs

pub length-overwrite : (at : ℕ) (bytes old : List ℕ) → length (overwrite at bytes old) ≡ length old
length-overwrite at bytes old = by_test (nat_le (at + length bytes) (length old)) refl where
  by_test : (b : Bool) → nat_le (at + length bytes) (length old) ≡ b
      → length (if b then take at old ++ bytes ++ drop (at + length bytes) old else old) ≡ length old
  by_test true e = let fits : at + length bytes ≤ length old = grind (arith, nat_tests) in grind (arith, common_steps)
  by_test false e = refl

pub length-effect : (slot : ℕ) (d : Disk) (e : Deed) → length (effect slot d e).bytes ≡ length d.bytes
length-effect slot d Idle = refl
length-effect slot d (Wrote s at len bytes) = by_test (s == slot) where
  by_test : (b : Bool) → length (if b then record
      { bytes = overwrite at bytes d.bytes; unsynced = record { from = at; len = len } ∷ d.unsynced; lost = d.lost }
      else d).bytes ≡ length d.bytes
  by_test true = length-overwrite at bytes d.bytes
  by_test false = refl
length-effect slot d (Synced s) = by_test (s == slot) where
  by_test : (b : Bool) → length (if b then record { bytes = d.bytes; unsynced = []; lost = d.lost } else d).bytes
      ≡ length d.bytes
  by_test true = refl
  by_test false = refl
length-effect slot d (Said place text whole) = refl
length-effect slot d (Passed given wire member bytes) = refl
length-effect slot d (Fetched s) = refl
length-effect slot d (Renewed s since) = by_test (s == slot) where
  by_test : (b : Bool) → length (if b then record { bytes = replicate (length d.bytes) 0; unsynced = []; lost = d.lost }
      else d).bytes ≡ length d.bytes
  by_test true = length-replicate (length d.bytes) 0
  by_test false = refl

pub length-after : (slot : ℕ) (d : Disk) (es : List Deed) → length (after slot d es).bytes ≡ length d.bytes
length-after slot d [] = refl
length-after slot d (e ∷ es) = length-after slot (effect slot d e) es ∙ length-effect slot d e

pub gather_append : {T : Type 0} (adds : Deed → List T) (es fs : List Deed)
    → gather adds (es ++ fs) ≡ gather adds es ++ gather adds fs
gather_append adds [] fs = refl
gather_append adds (e ∷ es) fs = ap (λ l. adds e ++ l) (gather_append adds es fs) ∙ sym
    (append_assoc (adds e) (gather adds es) (gather adds fs))
