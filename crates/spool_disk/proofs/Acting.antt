-- What the acts of a plant in memory show.
use Rattle.std.proofs.Common.{◌≡◌, ◌≢◌, ◌⊎◌, inl, inr, ⊎_elim, ℕ, zero, suc, ◌+◌, ◌*◌, ◌≤◌, ◌<◌, ◌==◌, nat_lt, nat_le, ◌&&◌, drop, Bool, true, false, if◌then◌else◌, Option, Some, None, List, [], ◌∷◌, ◌++◌, length, take, set, slice_index, append_assoc, refl, subst, sym, ◌∙◌, ap, arith, get_or-set_same, get_or-set_other}
use Rattle.std.proofs.lemmas.Bool.Decides.{nat_tests}
use Rattle.std.proofs.lemmas.List.{take_all, take-append-le, drop_all, drop-append-le, append-nil}
use Rattle.std.proofs.lemmas.Grind.{common_steps}
use Rattle.std.proofs.Math.Path.{fun_ext}
use Rattle.mas_types.specs.declared.ids.Dev.{Dev}
use Rattle.mas_types.specs.declared.ids.Dev.TheVariants.{Ckpt1, Ckpt2, Spool}
use Rattle.spool_plant.specs.declared.plant.Part.{Part}
use Rattle.spool_plant.specs.declared.plant.Part.TheVariants.{Disk as DiskPart, Console, Printer, Wire}
use Rattle.spool_plant.specs.declared.plant.Act.TheVariants.{Done, Halted}
use Rattle.spool_disk.specs.declared.health.Health.{Health}
use Rattle.spool_plant.specs.View.{Disk, Line, World, disk_now}
use Rattle.spool_plant.specs.Acts.{Goes, Acts, Renews, SamePaper, SameWires, next, top}
use Rattle.spool_disk.specs.Places.{slot_of, place_of}
use Rattle.spool_disk.specs.Health.{sound, health_at, was_lost, since_of, lost_from, renewed_after}
use Rattle.spool_disk.specs.Kept.{fresh, size_at}
use Rattle.spool_disk.specs.Deeds.{Deed, Idle, Wrote, Synced, Said, Passed, Fetched, Renewed, effect, after, gather, line_on, lines_of, moved, idled}
use Rattle.spool_disk.specs.DeedLaws.{after_push, gather_append}
use Rattle.spool_disk.specs.Renewals.{known_before, since_then}
use Rattle.spool_disk.specs.State.{Halts, State, halted, shown, lost_in, disk_in, first_lines, lines_in, moved_in, world_in, view_of, counted, recorded, renewed}

-- no two devices have one slot, and no two parts one place
pub slot_apart : (d e : Dev) → slot_of d ≡ slot_of e → d ≡ e
slot_apart Ckpt1 Ckpt1 same = refl
slot_apart Ckpt1 Ckpt2 same = absurd (omega arith)
slot_apart Ckpt1 (Spool v) same = absurd (omega arith)
slot_apart Ckpt2 Ckpt1 same = absurd (omega arith)
slot_apart Ckpt2 Ckpt2 same = refl
slot_apart Ckpt2 (Spool v) same = absurd (omega arith)
slot_apart (Spool v) Ckpt1 same = absurd (omega arith)
slot_apart (Spool v) Ckpt2 same = absurd (omega arith)
slot_apart (Spool v) (Spool w) same = let e : v ≡ w = omega arith in ap Spool e

pub place_same : (p q : Part) → place_of p ≡ place_of q → p ≡ q
place_same (DiskPart d) (DiskPart e) same = let slots : slot_of d ≡ slot_of e = omega arith in ap DiskPart (slot_apart d e slots)
place_same (DiskPart d) Console same = absurd (omega arith)
place_same (DiskPart d) (Printer m) same = absurd (omega arith)
place_same (DiskPart d) (Wire n) same = absurd (omega arith)
place_same Console (DiskPart d) same = absurd (omega arith)
place_same Console Console same = refl
place_same Console (Printer m) same = absurd (omega arith)
place_same Console (Wire n) same = absurd (omega arith)
place_same (Printer m) (DiskPart d) same = absurd (omega arith)
place_same (Printer m) Console same = absurd (omega arith)
place_same (Printer m) (Printer k) same = let e : m.0 ≡ k.0 = omega arith in ap (λ (x : ℕ). Printer (record { 0 = x })) e
place_same (Printer m) (Wire n) same = absurd (omega arith)
place_same (Wire n) (DiskPart d) same = absurd (omega arith)
place_same (Wire n) Console same = absurd (omega arith)
place_same (Wire n) (Printer k) same = absurd (omega arith)
place_same (Wire n) (Wire m) same = let e : n ≡ m = omega arith in ap Wire e

pub same_test : (n : ℕ) → (n == n) ≡ true
same_test n = grind (arith, nat_tests)

pub other_test : (m n : ℕ) → (m ≡ n → ⊥) → (m == n) ≡ false
other_test m n ne = by_test (m == n) refl where
  by_test : (b : Bool) → (m == n) ≡ b → (m == n) ≡ false
  by_test true e = absurd (ne (grind (arith, nat_tests)))
  by_test false e = e

pub same_or_not : (m n : ℕ) → (m ≡ n) ⊎ (m ≡ n → ⊥)
same_or_not m n = by_test (m == n) refl where
  by_test : (b : Bool) → (m == n) ≡ b → (m ≡ n) ⊎ (m ≡ n → ⊥)
  by_test true e = inl (grind (arith, nat_tests))
  by_test false e = inr (λ same. let f : (n == n) ≡ false = subst (λ (k : ℕ). (k == n) ≡ false) same e in grind (arith, nat_tests))

-- counts, one of them one more
pub rises : (xs : List ℕ) (i k : ℕ) → slice_index xs i ≤ top → i < length xs → slice_index xs k ≤ slice_index (counted xs i) k
rises xs i k fits there = ⊎_elim
    (λ same.
    let set_is : slice_index (counted xs i) i ≡ next (slice_index xs i) = get_or-set_same xs i _ 0 there in
    subst (λ (m : ℕ). slice_index xs m ≤ slice_index (counted xs i) m) (sym same) (omega (arith, set_is, fits)))
    (λ ne. let set_is : slice_index (counted xs i) k ≡ slice_index xs k = get_or-set_other xs i k _ 0 ne in omega (arith, set_is))
    (same_or_not k i)

-- what was lost by a moment stays so
pub lost_on : (since : Option ℕ) (now t : ℕ) → since_of since ≤ now → now ≤ t → was_lost since t ≡ was_lost since now
lost_on None now t by on = refl
lost_on (Some m) now t by on =
    let p : nat_le m t ≡ true = grind (arith, nat_tests) in
    let q : nat_le m now ≡ true = grind (arith, nat_tests) in
    p ∙ sym q

-- a part that an act loses is as lost as before at earlier moments, and lost at the act's own
pub lost_before : (since : Option ℕ) (now t : ℕ) → t ≤ now → was_lost (lost_from since now) t ≡ was_lost since t
lost_before (Some m) now t le = refl
lost_before None now t le = by_test (now == top) refl where
  by_test : (b : Bool) → (now == top) ≡ b → was_lost (if b then None else Some (now + 1)) t ≡ false
  by_test true e = refl
  by_test false e = let p : nat_le (now + 1) t ≡ false = grind (arith, nat_tests) in p

pub lost_there : (since : Option ℕ) (now : ℕ) → since_of since ≤ now → now < top → was_lost (lost_from since now) (next now) ≡ true
lost_there (Some m) now by below = let p : nat_le m (next now) ≡ true = grind (arith, nat_tests) in p
lost_there None now by below =
    let not_top : (now == top) ≡ false = other_test now top (λ e. omega arith) in
    let made : next now ≡ now + 1 = omega arith in
    let p : nat_le (now + 1) (now + 1) ≡ true = grind (arith, nat_tests) in
    ap (λ (b : Bool). was_lost (if b then None else Some (now + 1)) (next now)) not_top ∙ ap (nat_le (now + 1)) made ∙ p

pub since_by : (since : Option ℕ) (now : ℕ) → since_of since ≤ now → now ≤ top → since_of (lost_from since now) ≤ next now
since_by (Some m) now by small = omega arith
since_by None now by small = by_test (now == top) refl where
  by_test : (b : Bool) → (now == top) ≡ b → since_of (if b then None else Some (now + 1)) ≤ next now
  by_test true e = omega arith
  by_test false e = let ne : now ≢ top = (λ same. let f : (top == top) ≡ false = subst (λ (k : ℕ). (k == top) ≡ false) same e in grind (arith, nat_tests)) in omega arith

-- one part's health is set
module _ (parts : List Health) (place : ℕ) (h : Health) (there : place < length parts) where
  pub health_same : (k : ℕ) → k ≡ place → health_at (set parts place h) k ≡ h
  health_same k same = ap (λ (n : ℕ). health_at (set parts place h) n) same ∙ get_or-set_same parts place h sound there

  pub health_other : (k : ℕ) → (k ≡ place → ⊥) → health_at (set parts place h) k ≡ health_at parts k
  health_other k ne = get_or-set_other parts place k h sound ne

  -- a fact of each part
  pub health_each : (P : ℕ → Health → Type 0) → P place h → ((k : ℕ) → P k (health_at parts k)) → (k : ℕ) → P k (health_at (set parts place h) k)
  health_each P here each k = ⊎_elim
      (λ same. subst (P k) (sym (health_same k same)) (subst (λ (n : ℕ). P n h) (sym same) here))
      (λ ne. subst (P k) (sym (health_other k ne)) (each k))
      (same_or_not k place)

-- a moment in which nothing is done shows nothing
pub idle_after : (slot : ℕ) (d : Disk) (es : List Deed) (k : ℕ) → after slot d (take k (es ++ Idle ∷ [])) ≡ after slot d (take k es)
idle_after slot d [] zero = refl
idle_after slot d [] (suc zero) = refl
idle_after slot d [] (suc (suc k)) = refl
idle_after slot d (e ∷ es) zero = refl
idle_after slot d (e ∷ es) (suc k) = idle_after slot (effect slot d e) es k

pub idle_gather : {T : Type 0} (adds : Deed → List T) → adds Idle ≡ [] → (es : List Deed) (k : ℕ) → gather adds (take k (es ++ Idle ∷ [])) ≡ gather adds (take k es)
idle_gather adds none [] zero = refl
idle_gather adds none [] (suc zero) = ap (λ l. l ++ []) none
idle_gather adds none [] (suc (suc k)) = ap (λ l. l ++ []) none
idle_gather adds none (e ∷ es) zero = refl
idle_gather adds none (e ∷ es) (suc k) = ap (λ l. adds e ++ l) (idle_gather adds none es k)

pub idled_after : (slot : ℕ) (d : Disk) (acts : ℕ) (es : List Deed) (k : ℕ) → after slot d (take k (idled acts es)) ≡ after slot d (take k es)
idled_after slot d acts es k = by_test (nat_lt (length es) acts) where
  by_test : (b : Bool) → after slot d (take k (if b then es ++ Idle ∷ [] else es)) ≡ after slot d (take k es)
  by_test true = idle_after slot d es k
  by_test false = refl

pub idled_gather : {T : Type 0} (adds : Deed → List T) → adds Idle ≡ [] → (acts : ℕ) (es : List Deed) (k : ℕ) → gather adds (take k (idled acts es)) ≡ gather adds (take k es)
idled_gather adds none acts es k = by_test (nat_lt (length es) acts) where
  by_test : (b : Bool) → gather adds (take k (if b then es ++ Idle ∷ [] else es)) ≡ gather adds (take k es)
  by_test true = idle_gather adds none es k
  by_test false = refl

-- what was known of losses
pub since_append : (place : ℕ) (es fs : List Deed) (x : Option ℕ) → since_then place (es ++ fs) x ≡ since_then place es (since_then place fs x)
since_append place [] fs x = refl
since_append place (e ∷ es) fs x = ap (known_before place e) (since_append place es fs x)

pub since_late : (place t : ℕ) (es : List Deed) (x : Option ℕ) → length es ≤ t → since_then place (drop t es) x ≡ x
since_late place t es x le = ap (λ (l : List Deed). since_then place l x) (drop_all t es le)

idle_since : (place : ℕ) (es : List Deed) (k : ℕ) (x : Option ℕ) → since_then place (drop k (es ++ Idle ∷ [])) x ≡ since_then place (drop k es) x
idle_since place [] zero x = refl
idle_since place [] (suc zero) x = refl
idle_since place [] (suc (suc k)) x = refl
idle_since place (e ∷ es) zero x = ap (known_before place e) (since_append place es (Idle ∷ []) x)
idle_since place (e ∷ es) (suc k) x = idle_since place es k x

idled_since : (place acts : ℕ) (es : List Deed) (k : ℕ) (x : Option ℕ) → since_then place (drop k (idled acts es)) x ≡ since_then place (drop k es) x
idled_since place acts es k x = by_test (nat_lt (length es) acts) where
  by_test : (b : Bool) → since_then place (drop k (if b then es ++ Idle ∷ [] else es)) x ≡ since_then place (drop k es) x
  by_test true = idle_since place es k x
  by_test false = refl

-- where the same is known after acts, the same was known before them
before_same : (place : ℕ) (e : Deed) (t : ℕ) (x y : Option ℕ) → was_lost x t ≡ was_lost y t → was_lost (known_before place e x) t ≡ was_lost (known_before place e y) t
before_same place Idle t x y same = same
before_same place (Wrote s at len bytes) t x y same = same
before_same place (Synced s) t x y same = same
before_same place (Said p text whole) t x y same = same
before_same place (Passed given w m bytes) t x y same = same
before_same place (Fetched s) t x y same = same
before_same place (Renewed s since) t x y same = by_test (4 * s == place && nat_lt s 258) where
  by_test : (b : Bool) → was_lost (if b then since else x) t ≡ was_lost (if b then since else y) t
  by_test true = refl
  by_test false = same

since_same : (place : ℕ) (es : List Deed) (t : ℕ) (x y : Option ℕ) → was_lost x t ≡ was_lost y t → was_lost (since_then place es x) t ≡ was_lost (since_then place es y) t
since_same place [] t x y same = same
since_same place (e ∷ es) t x y same = before_same place e t (since_then place es x) (since_then place es y) (since_same place es t x y same)

-- an act that is no renewal
abbrev pub Keeps : Deed → Type 0
Keeps e = (place : ℕ) (x : Option ℕ) → known_before place e x ≡ x

-- an act that is recorded
module _ (s : State) (full : length s.deeds ≡ s.now) (by_now : (k : ℕ) → since_of (health_at s.parts k).since ≤ s.now) where
  -- a world, by the acts up to its moment, and what was lost by then
  abbrev world_by : List Deed → (Dev → Bool) → World
  world_by l gone = record {
    disk = λ d. shown (after (slot_of d) (fresh s.base (slot_of d)) l) (gone d);
    console = first_lines s.base 1 ++ lines_of 1 l;
    paper = λ m. first_lines s.base (4 * m + 2) ++ lines_of (4 * m + 2) l;
    taken = λ w m. gather (moved false w m) l;
    given = λ w m. gather (moved true w m) l;
  }

  lost_past : (e : Deed) (t place : ℕ) (x : Option ℕ) → t ≤ s.now → since_then place (drop t (s.deeds ++ e ∷ [])) x ≡ since_then place (drop t s.deeds) (known_before place e x)
  lost_past e t place x le =
      let short : t ≤ length s.deeds = omega arith in
      ap (λ (l : List Deed). since_then place l x) (drop-append-le t s.deeds (e ∷ []) short) ∙ since_append place (drop t s.deeds) (e ∷ []) x

  pub past_recorded : (e : Deed) (stops : Halts) → Keeps e → (t : ℕ) → t ≤ s.now → world_in (recorded s e stops) t ≡ world_in s t
  past_recorded e stops keeps t le =
      let short : t ≤ length s.deeds = omega arith in
      let gone : (λ d. lost_in (recorded s e stops) t (4 * slot_of d)) ≡ (λ d. lost_in s t (4 * slot_of d)) =
      fun_ext (λ d. ap (λ (o : Option ℕ). was_lost o t) (lost_past e t (4 * slot_of d) (health_at s.parts (4 * slot_of d)).since le ∙ ap (since_then (4 * slot_of d) (drop t s.deeds)) (keeps (4 * slot_of d) (health_at s.parts (4 * slot_of d)).since))) in
      ap (world_by (take t (s.deeds ++ e ∷ []))) gone
      ∙ ap (λ (l : List Deed). world_by l (λ d. lost_in s t (4 * slot_of d))) (take-append-le t s.deeds (e ∷ []) short)

  pub lost_now : (place : ℕ) → lost_in s s.now place ≡ was_lost (health_at s.parts place).since s.now
  lost_now place = ap (λ (o : Option ℕ). was_lost o s.now) (since_late place s.now s.deeds (health_at s.parts place).since (omega arith))

  pub disk_old : (slot : ℕ) → disk_in s s.now slot ≡ shown (after slot (fresh s.base slot) s.deeds) (was_lost (health_at s.parts (4 * slot)).since s.now)
  disk_old slot =
      ap (shown (after slot (fresh s.base slot) (take s.now s.deeds))) (lost_now (4 * slot))
      ∙ ap (λ (l : List Deed). shown (after slot (fresh s.base slot) l) (was_lost (health_at s.parts (4 * slot)).since s.now)) (take_all s.now s.deeds (omega arith))

  pub disk_new : (slot : ℕ) (e : Deed) (stops : Halts) → disk_in (recorded s e stops) (s.now + 1) slot ≡ shown (effect slot (after slot (fresh s.base slot) s.deeds) e) (was_lost (health_at s.parts (4 * slot)).since s.now)
  disk_new slot e stops =
      ap (λ (o : Option ℕ). shown (after slot (fresh s.base slot) (take (s.now + 1) (s.deeds ++ e ∷ []))) (was_lost o (s.now + 1))) (since_late (4 * slot) (s.now + 1) (s.deeds ++ e ∷ []) (health_at s.parts (4 * slot)).since (grind (arith, common_steps)))
      ∙ ap (λ (l : List Deed). shown (after slot (fresh s.base slot) l) (was_lost (health_at s.parts (4 * slot)).since (s.now + 1))) (take_all (s.now + 1) (s.deeds ++ e ∷ []) (grind (arith, common_steps)))
      ∙ ap (λ (d : Disk). shown d (was_lost (health_at s.parts (4 * slot)).since (s.now + 1))) (after_push slot (fresh s.base slot) s.deeds e)
      ∙ ap (shown (effect slot (after slot (fresh s.base slot) s.deeds) e)) (lost_on (health_at s.parts (4 * slot)).since s.now (s.now + 1) (by_now (4 * slot)) (omega arith))

  pub all_old : {T : Type 0} (adds : Deed → List T) → gather adds (take s.now s.deeds) ≡ gather adds s.deeds
  all_old adds = ap (gather adds) (take_all s.now s.deeds (omega arith))

  pub all_new : {T : Type 0} (adds : Deed → List T) (e : Deed) → gather adds (take (s.now + 1) (s.deeds ++ e ∷ [])) ≡ gather adds s.deeds ++ gather adds (e ∷ [])
  all_new adds e = ap (gather adds) (take_all (s.now + 1) (s.deeds ++ e ∷ []) (grind (arith, common_steps))) ∙ gather_append adds s.deeds (e ∷ [])

  -- what acts add to a list is as before, where the last one adds nothing
  pub none_new : {T : Type 0} (adds : Deed → List T) (e : Deed) → gather adds (e ∷ []) ≡ [] → gather adds (take (s.now + 1) (s.deeds ++ e ∷ [])) ≡ gather adds (take s.now s.deeds)
  none_new adds e none = all_new adds e ∙ ap (λ l. gather adds s.deeds ++ l) none ∙ append-nil (gather adds s.deeds) ∙ sym (all_old adds)

  pub lines_new : (place : ℕ) (e : Deed) (stops : Halts) → lines_in (recorded s e stops) (s.now + 1) place ≡ lines_in s s.now place ++ lines_of place (e ∷ [])
  lines_new place e stops =
      ap (λ (l : List Line). first_lines s.base place ++ l) (all_new (line_on place) e ∙ ap (λ (l : List Line). l ++ lines_of place (e ∷ [])) (sym (all_old (line_on place))))
      ∙ sym (append_assoc (first_lines s.base place) (lines_of place (take s.now s.deeds)) (lines_of place (e ∷ [])))

  pub lines_same : (place : ℕ) (e : Deed) (stops : Halts) → lines_of place (e ∷ []) ≡ [] → lines_in (recorded s e stops) (s.now + 1) place ≡ lines_in s s.now place
  lines_same place e stops none = ap (λ (l : List Line). first_lines s.base place ++ l) (none_new (line_on place) e none)

  pub goes_recorded : (e : Deed) (stops : Halts) (waiting : ℕ → List ℕ) → Keeps e → s.now < top → ((m : ℕ) → slice_index s.stops.counts m ≤ slice_index stops.counts m) → Goes (view_of s) (view_of (record (recorded s e stops) { waiting = waiting }))
  goes_recorded e stops waiting keeps below more = record {
    later = omega arith;
    past = λ t le. past_recorded e stops keeps t le;
    size = λ d. refl;
    faults = λ p. omega arith;
    stops = more;
    lost = λ p is. is;
    arms = λ m. refl;
  }

  pub acts_done : (by : ℕ) (part : Part) (e : Deed) (waiting : ℕ → List ℕ) → Keeps e → s.now < top → (health_at s.parts (place_of part)).lost ≡ false → Acts by part (view_of s) (view_of (record (recorded s e s.stops) { waiting = waiting })) Done
  acts_done by part e waiting keeps below whole = record {
    time = omega arith;
    goes = goes_recorded e s.stops waiting keeps below (λ m. omega arith);
    failed = λ f. absurd (cc);
    is_lost = λ f. absurd (cc);
    stays_lost = λ was f. absurd (cc);
    else_lost = λ p other. refl;
    else_faults = λ p other. refl;
    halted = λ f. absurd (cc);
    not_operator = λ f. absurd (cc);
    no_other_stop = λ m other. refl;
    at_halt = λ f. absurd (cc);
    else_halt = λ f. refl;
    last = λ at. absurd (omega arith);
    loses = λ d. refl;
    arms = λ m. refl;
  }

  pub acts_halted : (by : ℕ) (part : Part) (e : Deed) → Keeps e → s.now < top → slice_index s.stops.counts by ≤ top → 0 < by → by < length s.stops.counts → Acts by part (view_of s) (view_of (recorded s e (halted s.stops by (s.now + 1)))) Halted
  acts_halted by part e keeps below fits member there = record {
    time = omega arith;
    goes = goes_recorded e (halted s.stops by (s.now + 1)) s.waiting keeps below (λ m. rises s.stops.counts by m fits there);
    failed = λ f. absurd (cc);
    is_lost = λ f. absurd (cc);
    stays_lost = λ was f. absurd (cc);
    else_lost = λ p other. refl;
    else_faults = λ p other. refl;
    halted = λ f. let same : slice_index (counted s.stops.counts by) by ≡ next (slice_index s.stops.counts by) = get_or-set_same s.stops.counts by _ 0 there in omega (arith, same);
    not_operator = λ f. member;
    no_other_stop = λ m other. ⊎_elim (λ ne. get_or-set_other s.stops.counts by m _ 0 ne) (λ f. absurd (f refl)) other;
    at_halt = λ f. refl;
    else_halt = λ f. absurd (f refl);
    last = λ at. absurd (omega arith);
    loses = λ d. refl;
    arms = λ m. refl;
  }

  -- a renewal puts another device in a device's place
  module _ (dev : Dev) (few : slot_of dev < 258) (there : place_of (DiskPart dev) < length s.parts) where
    abbrev place : ℕ
    place = place_of (DiskPart dev)

    abbrev deed : Deed
    deed = Renewed (slot_of dev) (health_at s.parts place).since

    abbrev parts : List Health
    parts = set s.parts place (renewed_after (health_at s.parts place))

    known_renewed : (p : ℕ) → known_before p deed (health_at parts p).since ≡ (health_at s.parts p).since
    known_renewed p = ⊎_elim
        (λ same. subst (λ (q : ℕ). known_before q deed (health_at parts q).since ≡ (health_at s.parts q).since) (sym same)
        (ap (λ (b : Bool). if b && nat_lt (slot_of dev) 258 then (health_at s.parts place).since else (health_at parts place).since) (same_test place)
        ∙ ap (λ (b : Bool). if b then (health_at s.parts place).since else (health_at parts place).since) in_range))
        (λ ne.
        ap (λ (b : Bool). if b && nat_lt (slot_of dev) 258 then (health_at s.parts place).since else (health_at parts p).since) (other_test place p (λ same. ne (sym same)))
        ∙ ap (λ (g : Health). g.since) (health_other s.parts place (renewed_after (health_at s.parts place)) there p ne))
        (same_or_not p place)
      where
        in_range : nat_lt (slot_of dev) 258 ≡ true
        in_range = grind (arith, nat_tests)

    past_renewed : (t : ℕ) → t ≤ s.now → world_in (renewed s dev) t ≡ world_in s t
    past_renewed t le =
        let short : t ≤ length s.deeds = omega arith in
        let gone : (λ d. lost_in (renewed s dev) t (4 * slot_of d)) ≡ (λ d. lost_in s t (4 * slot_of d)) =
        fun_ext (λ d. ap (λ (o : Option ℕ). was_lost o t) (lost_past deed t (4 * slot_of d) (health_at parts (4 * slot_of d)).since le ∙ ap (since_then (4 * slot_of d) (drop t s.deeds)) (known_renewed (4 * slot_of d)))) in
        ap (world_by (take t (s.deeds ++ deed ∷ []))) gone
        ∙ ap (λ (l : List Deed). world_by l (λ d. lost_in s t (4 * slot_of d))) (take-append-le t s.deeds (deed ∷ []) short)

    pub renewed_acts : s.now < top → Renews dev (view_of s) (view_of (renewed s dev)) Done
    renewed_acts below = record {
      time = omega arith;
      later = omega arith;
      past = past_renewed;
      size = λ d. refl;
      faults = λ p. health_each s.parts place (renewed_after (health_at s.parts place)) there (λ n g. (health_at s.parts n).faults ≤ g.faults) (omega arith) (λ n. omega arith) (place_of p);
      failed = λ f. absurd (cc);
      is_lost = λ f. absurd (cc);
      is_there = λ f. ap (λ (g : Health). g.lost) (health_same s.parts place (renewed_after (health_at s.parts place)) there place refl);
      else_lost = λ p ne. ap (λ (g : Health). g.lost) (health_other s.parts place (renewed_after (health_at s.parts place)) there (place_of p) (λ same. ne (place_same p (DiskPart dev) same)));
      else_faults = λ p ne. ap (λ (g : Health). g.faults) (health_other s.parts place (renewed_after (health_at s.parts place)) there (place_of p) (λ same. ne (place_same p (DiskPart dev) same)));
      no_halt = λ f. absurd (cc);
      stops = λ m. refl;
      halt = refl;
      last = λ at. absurd (omega arith);
      loses = λ d. refl;
      arms = λ m. refl;
    }

    pub renewed_disk : (slot : ℕ) → disk_in (renewed s dev) (s.now + 1) slot ≡ shown (effect slot (after slot (fresh s.base slot) s.deeds) deed) (was_lost (health_at parts (4 * slot)).since (s.now + 1))
    renewed_disk slot =
        ap (λ (o : Option ℕ). shown (after slot (fresh s.base slot) (take (s.now + 1) (s.deeds ++ deed ∷ []))) (was_lost o (s.now + 1))) (since_late (4 * slot) (s.now + 1) (s.deeds ++ deed ∷ []) (health_at parts (4 * slot)).since (grind (arith, common_steps)))
        ∙ ap (λ (l : List Deed). shown (after slot (fresh s.base slot) l) (was_lost (health_at parts (4 * slot)).since (s.now + 1))) (take_all (s.now + 1) (s.deeds ++ deed ∷ []) (grind (arith, common_steps)))
        ∙ ap (λ (d : Disk). shown d (was_lost (health_at parts (4 * slot)).since (s.now + 1))) (after_push slot (fresh s.base slot) s.deeds deed)

    -- the device is there, and others are as lost as they were
    pub renewed_is_there : was_lost (health_at parts place).since (s.now + 1) ≡ false
    renewed_is_there = ap (λ (g : Health). was_lost g.since (s.now + 1)) (health_same s.parts place (renewed_after (health_at s.parts place)) there place refl)

    pub renewed_else : (d : Dev) → d ≢ dev → was_lost (health_at parts (4 * slot_of d)).since (s.now + 1) ≡ was_lost (health_at s.parts (4 * slot_of d)).since s.now
    renewed_else d ne =
        ap (λ (g : Health). was_lost g.since (s.now + 1)) (health_other s.parts place (renewed_after (health_at s.parts place)) there (4 * slot_of d) (λ same. ne (slot_apart d dev (omega arith))))
        ∙ lost_on (health_at s.parts (4 * slot_of d)).since s.now (s.now + 1) (by_now (4 * slot_of d)) (omega arith)

-- an act in which nothing is done, and a part is lost
module _ (acts : ℕ) (s s' : State) (part : Part) (h : Health) (small : s.now ≤ top) (short : length s.deeds ≤ s.now) (by_now : (k : ℕ) → since_of (health_at s.parts k).since ≤ s.now) (there : place_of part < length s.parts)
    (time : s'.now ≡ next s.now) (base : s'.base ≡ s.base) (deeds : s'.deeds ≡ idled acts s.deeds) (parts : s'.parts ≡ set s.parts (place_of part) h)
    (since : h.since ≡ lost_from (health_at s.parts (place_of part)).since s.now) (gone : h.lost ≡ true) (waits : s'.waiting ≡ s.waiting) where
  pub same_after : (slot k : ℕ) → after slot (fresh s'.base slot) (take k s'.deeds) ≡ after slot (fresh s.base slot) (take k s.deeds)
  same_after slot k =
      ap (λ (l : List Deed). after slot (fresh s'.base slot) (take k l)) deeds
      ∙ ap (λ b. after slot (fresh b slot) (take k (idled acts s.deeds))) base
      ∙ idled_after slot (fresh s.base slot) acts s.deeds k

  pub same_gather : {T : Type 0} (adds : Deed → List T) → adds Idle ≡ [] → (k : ℕ) → gather adds (take k s'.deeds) ≡ gather adds (take k s.deeds)
  same_gather adds none k = ap (λ (l : List Deed). gather adds (take k l)) deeds ∙ idled_gather adds none acts s.deeds k

  pub same_lines : (place k : ℕ) → lines_in s' k place ≡ lines_in s k place
  same_lines place k =
      ap (λ b. first_lines b place ++ lines_of place (take k s'.deeds)) base
      ∙ ap (λ (l : List Line). first_lines s.base place ++ l) (same_gather (line_on place) refl k)

  same_since : (k t : ℕ) → t ≤ s.now → was_lost (health_at s'.parts k).since t ≡ was_lost (health_at s.parts k).since t
  same_since k t le =
      ap (λ (l : List Health). was_lost (health_at l k).since t) parts
      ∙ health_each s.parts (place_of part) h there (λ n g. was_lost g.since t ≡ was_lost (health_at s.parts n).since t)
      (ap (λ (o : Option ℕ). was_lost o t) since ∙ lost_before (health_at s.parts (place_of part)).since s.now t le)
      (λ n. refl) k

  -- what is known at a moment is what was known of the earlier acts
  known_then : (place t : ℕ) → lost_in s' t place ≡ was_lost (since_then place (drop t s.deeds) (health_at s'.parts place).since) t
  known_then place t =
      ap (λ (l : List Deed). was_lost (since_then place (drop t l) (health_at s'.parts place).since) t) deeds
      ∙ ap (λ (o : Option ℕ). was_lost o t) (idled_since place acts s.deeds t (health_at s'.parts place).since)

  same_lost : (place t : ℕ) → t ≤ s.now → lost_in s' t place ≡ lost_in s t place
  same_lost place t le = known_then place t ∙ since_same place (drop t s.deeds) t (health_at s'.parts place).since (health_at s.parts place).since (same_since place t le)

  known_now : (place : ℕ) → lost_in s' s'.now place ≡ was_lost (health_at s'.parts place).since s'.now
  known_now place = known_then place s'.now ∙ ap (λ (o : Option ℕ). was_lost o s'.now) (since_late place s'.now s.deeds (health_at s'.parts place).since (omega (arith, small, time, short)))

  past_disk : (t : ℕ) → t ≤ s.now → (d : Dev) → disk_in s' t (slot_of d) ≡ disk_in s t (slot_of d)
  past_disk t le d =
      ap (λ (x : Disk). shown x (lost_in s' t (4 * slot_of d))) (same_after (slot_of d) t)
      ∙ ap (shown (after (slot_of d) (fresh s.base (slot_of d)) (take t s.deeds))) (same_lost (4 * slot_of d) t le)

  pub past_idled : (t : ℕ) → t ≤ s.now → world_in s' t ≡ world_in s t
  past_idled t le =
      let disks : (λ d. disk_in s' t (slot_of d)) ≡ (λ d. disk_in s t (slot_of d)) = fun_ext (past_disk t le) in
      let papers : (λ m. lines_in s' t (4 * m + 2)) ≡ (λ m. lines_in s t (4 * m + 2)) = fun_ext (λ m. same_lines (4 * m + 2) t) in
      let wires : (side : Bool) → (λ w m. moved_in s' t side w m) ≡ (λ w m. moved_in s t side w m) = (λ side. fun_ext (λ w. fun_ext (λ m. same_gather (moved side w m) refl t))) in
      ap (λ (f : Dev → Disk). record { disk = f; console = lines_in s' t 1; paper = λ m. lines_in s' t (4 * m + 2); taken = λ w m. moved_in s' t false w m; given = λ w m. moved_in s' t true w m }) disks
      ∙ ap (λ (l : List Line). record { disk = λ d. disk_in s t (slot_of d); console = l; paper = λ m. lines_in s' t (4 * m + 2); taken = λ w m. moved_in s' t false w m; given = λ w m. moved_in s' t true w m }) (same_lines 1 t)
      ∙ ap (λ (f : ℕ → List Line). record { disk = λ d. disk_in s t (slot_of d); console = lines_in s t 1; paper = f; taken = λ w m. moved_in s' t false w m; given = λ w m. moved_in s' t true w m }) papers
      ∙ ap (λ (f : ℕ → ℕ → List ℕ). record { disk = λ d. disk_in s t (slot_of d); console = lines_in s t 1; paper = λ m. lines_in s t (4 * m + 2); taken = f; given = λ w m. moved_in s' t true w m }) (wires false)
      ∙ ap (λ (f : ℕ → ℕ → List ℕ). record { disk = λ d. disk_in s t (slot_of d); console = lines_in s t 1; paper = λ m. lines_in s t (4 * m + 2); taken = λ w m. moved_in s t false w m; given = f }) (wires true)

  pub goes_idled : ((p : Part) → (health_at s.parts (place_of p)).faults ≤ (health_at s'.parts (place_of p)).faults) → ((m : ℕ) → slice_index s.stops.counts m ≤ slice_index s'.stops.counts m) → s'.arms ≡ s.arms → Goes (view_of s) (view_of s')
  goes_idled more stops arms = record {
    later = omega (arith, small, time);
    past = past_idled;
    size = λ d. ap (λ b. size_at b (slot_of d)) base;
    faults = more;
    stops = stops;
    lost = λ p is. ap (λ (l : List Health). (health_at l (place_of p)).lost) parts ∙ health_each s.parts (place_of part) h there (λ n g. (health_at s.parts n).lost ≡ true → g.lost ≡ true) (λ was. gone) (λ n was. was) (place_of p) is;
    arms = λ m. ap (λ (l : List ℕ). slice_index l m) arms;
  }

  pub now_lost : (view_of s').lost part ≡ true
  now_lost = ap (λ (l : List Health). (health_at l (place_of part)).lost) parts ∙ ap (λ (g : Health). g.lost) (health_same s.parts (place_of part) h there (place_of part) refl) ∙ gone

  pub else_same : (p : Part) → (p ≡ part → ⊥) → health_at s'.parts (place_of p) ≡ health_at s.parts (place_of p)
  else_same p ne = ap (λ (l : List Health). health_at l (place_of p)) parts ∙ health_other s.parts (place_of part) h there (place_of p) (λ same. ne (place_same p part same))

  -- what an act does to the devices and to the console
  whole_after : (slot : ℕ) → after slot (fresh s'.base slot) (take s'.now s'.deeds) ≡ after slot (fresh s.base slot) (take s.now s.deeds)
  whole_after slot =
      same_after slot s'.now
      ∙ ap (after slot (fresh s.base slot)) (take_all s'.now s.deeds (omega (arith, small, time)) ∙ sym (take_all s.now s.deeds short))

  pub fails_bytes : (d : Dev) → ((disk_now (view_of s') d).bytes ≡ (disk_now (view_of s) d).bytes) × ((disk_now (view_of s') d).unsynced ≡ (disk_now (view_of s) d).unsynced)
  fails_bytes d = (ap (λ (x : Disk). x.bytes) (whole_after (slot_of d)), ap (λ (x : Disk). x.unsynced) (whole_after (slot_of d)))

  pub fails_others : (d : Dev) → (DiskPart d ≡ part → ⊥) → disk_now (view_of s') d ≡ disk_now (view_of s) d
  fails_others d ne =
      ap (shown (after (slot_of d) (fresh s'.base (slot_of d)) (take s'.now s'.deeds))) (known_now (4 * slot_of d))
      ∙ ap (λ (x : Disk). shown x (was_lost (health_at s'.parts (4 * slot_of d)).since s'.now)) (whole_after (slot_of d))
      ∙ ap (λ (g : Health). shown (after (slot_of d) (fresh s.base (slot_of d)) (take s.now s.deeds)) (was_lost g.since s'.now)) (else_same (DiskPart d) ne)
      ∙ ap (shown (after (slot_of d) (fresh s.base (slot_of d)) (take s.now s.deeds))) (lost_on (health_at s.parts (4 * slot_of d)).since s.now s'.now (by_now (4 * slot_of d)) (omega (arith, small, time)))
      ∙ sym (ap (λ (o : Option ℕ). shown (after (slot_of d) (fresh s.base (slot_of d)) (take s.now s.deeds)) (was_lost o s.now)) (since_late (4 * slot_of d) s.now s.deeds (health_at s.parts (4 * slot_of d)).since short))

  fails_gather : {T : Type 0} (adds : Deed → List T) → adds Idle ≡ [] → gather adds (take s'.now s'.deeds) ≡ gather adds (take s.now s.deeds)
  fails_gather adds none = same_gather adds none s'.now ∙ ap (gather adds) (take_all s'.now s.deeds (omega (arith, small, time)) ∙ sym (take_all s.now s.deeds short))

  fails_lines : (place : ℕ) → lines_in s' s'.now place ≡ lines_in s s.now place
  fails_lines place =
      ap (λ b. first_lines b place ++ lines_of place (take s'.now s'.deeds)) base
      ∙ ap (λ (l : List Line). first_lines s.base place ++ l) (fails_gather (line_on place) refl)

  pub fails_console : ((view_of s').world s'.now).console ≡ ((view_of s).world s.now).console
  fails_console = fails_lines 1

  pub fails_paper : SamePaper (view_of s) (view_of s')
  fails_paper m = fails_lines (4 * m + 2)

  pub fails_wires : SameWires (view_of s) (view_of s')
  fails_wires = record {
    waiting = λ w. ap (λ (f : ℕ → List ℕ). f w) waits;
    taken = λ w m. fails_gather (moved false w m) refl;
    given = λ w m. fails_gather (moved true w m) refl;
  }

  pub fails_lost : s.now < top → (d : Dev) → part ≡ DiskPart d → (disk_now (view_of s') d).lost ≡ true
  fails_lost below d is =
      known_now (4 * slot_of d)
      ∙ ap (λ (l : List Health). was_lost (health_at l (4 * slot_of d)).since s'.now) parts
      ∙ ap (λ (g : Health). was_lost g.since s'.now) (health_same s.parts (place_of part) h there (4 * slot_of d) (sym (ap place_of is)))
      ∙ ap (λ (o : Option ℕ). was_lost o s'.now) since
      ∙ ap (was_lost (lost_from (health_at s.parts (place_of part)).since s.now)) time
      ∙ lost_there (health_at s.parts (place_of part)).since s.now (by_now (place_of part)) below
