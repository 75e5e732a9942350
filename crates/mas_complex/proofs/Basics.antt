-- Small facts: tests of numbers, what can't be, and equal values of equal options.
pub use Rattle.std.proofs.lemmas.Option.{get_or_from_slice_get, same_Some as some_is}
pub use Rattle.std.proofs.lemmas.Bool.{eqb-false as apart_is, eqb-true as number_is}
use Rattle.mas_complex.proofs.Names.{◌≡◌, ◌≤◌, ◌<◌, ℕ, Bool, true, false, arith, Place, Before, Opened, refl, ◌+◌, ◌*◌, ◌/◌, div-lt_iff_lt-mul, ◌≢◌, zero, suc, List, [], ◌∷◌, get_or, slice_set, sym, ◌∙◌, ap, get_or-set_other, Page, noted_by, Dev, Spool, Disk as DiskPart, View, Goes, IsCkpt, Replaces, subst, Ckpt1, Ckpt2, PlantGhosts, Ghosts as CopyGhosts, SteadyGhosts, other, Pair, Complex, Parts, parts_of, ◌||◌, or_cases, ⊎_elim, pick, Half, IsBothLost, World, Throughout, next, either_way, if◌then◌else◌, test_cases, ◌==◌, Entry}
use native.Mathlib.Nat.{ℕ_set}
use mathlib.Core.Sum.{⊎_set}
use mathlib.Core.List.{is_set}

pub no : (b : Bool) → b ≡ true → b ≡ false → ⊥
no b p q = cc

pub before_opened : (p : Place) → p ≡ Before → p ≡ Opened → ⊥
before_opened p a b = cc

-- what is true stays so, if it was false wherever it is
pub stays_true : (was is : Bool) → (was ≡ false → is ≡ false) → is ≡ true → was ≡ true
stays_true was is f e = test_cases was (was ≡ true) (λ t. t) (λ n. absurd (no is e (f n)))

-- what holds of both sides of a test holds of what it takes
pub of_if : {A : Type 0} (P : A → Type 0) (b : Bool) (x y : A) → (b ≡ true → P x) → (b ≡ false → P y) → P (if b then x else y)
of_if P true x y is not = is refl
of_if P false x y is not = not refl

-- what holds of a number, and of all others
pub of_other : (P : ℕ → Type 0) (m : ℕ) → P m → ((k : ℕ) → k ≢ m → P k) → (k : ℕ) → P k
of_other P m here others k = test_cases (k == m) (P k) (λ e. subst P (sym (number_is k m e)) here) (λ e. others k (apart_is k m e))

-- On which of the volumes a group lies.

pub few_quotient : (g volumes per : ℕ) → 1 ≤ per → g < volumes * per → g / per + 1 ≤ volumes
few_quotient g volumes per some lt = let less : g / per < volumes = (div-lt_iff_lt-mul (omega (arith, some))).1 lt in omega arith

-- What a member noted, by the list of what all noted.

-- another one's note leaves it
pub noted_beside : (had : List (List Page)) (by m : ℕ) (pages : List Page) → m ≢ by → noted_by (slice_set had by pages) m ≡ noted_by had m
noted_beside (x ∷ had) zero zero pages ne = absurd (ne refl)
noted_beside (x ∷ had) (suc by) (suc m) pages ne = noted_beside had by m pages (λ e. ne (ap suc e))
noted_beside _ by m pages ne = refl

-- Entries are a set.

pub entries_set : IsSet (List Entry)
entries_set = is_set (hlevel (ℕ_set, ⊎_set, is_set))

-- What is used of the plant after a call: worlds that are past stay, no member is stopped less often, and a volume that
-- was lost still is.

pub record Passes (old new : View) : Type 0 where
  pub later : old.now ≤ new.now
  pub past : (t : ℕ) → t ≤ old.now → new.world t ≡ old.world t
  pub stops : (m : ℕ) → old.stops m ≤ new.stops m
  pub volumes : (n : ℕ) → old.lost (DiskPart (Spool n)) ≡ true → new.lost (DiskPart (Spool n)) ≡ true

pub passes_of : (old new : View) → Goes old new → Passes old new
passes_of old new goes = record { later = goes.later; past = goes.past; stops = goes.stops; volumes = λ n lost. goes.lost (DiskPart (Spool n)) lost }

-- WHAT IS SEEN OF THE WORLD that stays as it was at each moment: over no call, over two, and over one act
module _ {A : Type 0} (see : World → A) where
  abbrev pub Still : View → View → Type 0
  Still old new = Throughout old.now new.now (λ t. see (new.world t) ≡ see (old.world old.now))

  pub still_none : (v : View) → Still v v
  still_none v t from le = let e : t ≡ v.now = omega (arith, from, le) in ap (λ (m : ℕ). see (v.world m)) e

  pub still_then : (old mid new : View) → Goes old mid → Goes mid new → Still old mid → Still mid new → Still old new
  still_then old mid new first last x y t from le = ⊎_elim
      (λ (h : t ≤ mid.now). ap see (last.past t h) ∙ x t from h)
      (λ (h : mid.now < t). y t (omega (arith, h)) le ∙ x mid.now first.later (omega arith))
      (either_way t mid.now)

  pub still_one : (old new : View) → Goes old new → new.now ≡ next old.now → see (new.world new.now) ≡ see (old.world old.now) → Still old new
  still_one old new goes time same t from le = ⊎_elim
      (λ (h : t ≤ old.now). let e : t ≡ old.now = omega (arith, h, from) in subst (λ (m : ℕ). see (new.world m) ≡ see (old.world old.now)) (sym e) (ap see (goes.past old.now (omega arith))))
      (λ (h : old.now < t). let e : t ≡ new.now = omega (arith, h, le, time) in subst (λ (m : ℕ). see (new.world m) ≡ see (old.world old.now)) (sym e) same)
      (either_way t old.now)

-- What a call on the copy of one device changes.

module _ {P C : Type 0} {plants : PlantGhosts P} {steadies : SteadyGhosts C} {copies : CopyGhosts C} (s : Complex P C plants steadies copies) where
  -- its parts with another plant, and other copies at these places
  abbrev pub parts_with : P → Pair C copies → Place → Place → Parts P C
  parts_with plant pair first second = record (parts_of s) {
    plant = plant;
    first_copy = pair.first.copy;
    first_alive = pair.first.alive;
    first_found = pair.first.found;
    second_copy = pair.second.copy;
    second_alive = pair.second.alive;
    second_found = pair.second.found;
    first = first;
    second = second;
  }

-- the half of a pair on a device
abbrev pub half_in : {C : Type 0} {copies : CopyGhosts C} → Pair C copies → Dev → Half C
half_in pair d = pick d pair.first pair.second

-- What holds of each of the two copies.

pub each : (P : Dev → Type 0) → P Ckpt1 → P Ckpt2 → (d : Dev) → IsCkpt d → P d
each P one two Ckpt1 ckpt = one
each P one two Ckpt2 ckpt = two
each P one two (Spool n) ckpt = absurd ckpt

pub beside : (dev : Dev) → IsCkpt dev → other dev Ckpt1 Ckpt2 ≢ dev
beside = each (λ d. other d Ckpt1 Ckpt2 ≢ d) (λ e. absurd (cc)) (λ e. absurd (cc))

pub volume_beside : (n : ℕ) (dev : Dev) → IsCkpt dev → Spool n ≢ dev
volume_beside n = each (λ d. Spool n ≢ d) (λ e. absurd (cc)) (λ e. absurd (cc))

pub part_beside : (dev : Dev) → IsCkpt dev → DiskPart (other dev Ckpt1 Ckpt2) ≢ DiskPart dev
part_beside dev ckpt e = beside dev ckpt (cc e)

-- a call that replaces a copy
pub replaces_passes : (by : ℕ) (dev : Dev) (stopped : Bool) (old new : View) → IsCkpt dev → Replaces by dev stopped old new → Passes old new
replaces_passes by dev stopped old new ckpt replaces = record {
  later = replaces.later;
  past = replaces.past;
  stops = replaces.stops;
  volumes = λ n lost. replaces.else_lost (DiskPart (Spool n)) (λ e. volume_beside n dev ckpt (cc e)) ∙ lost;
}

-- what the copies have at places, of which a call changed those on one device
module _ {A B : Type 0} (P : Dev → A → B → Type 0) where
  pub of_beside : (dev : Dev) → IsCkpt dev → (a1 a2 : A) (b1 b2 : B) → ((d : Dev) → IsCkpt d → P d (pick d a1 a2) (pick d b1 b2)) → P (other dev Ckpt1 Ckpt2) (other dev a1 a2) (other dev b1 b2)
  of_beside Ckpt1 ckpt a1 a2 b1 b2 all = all Ckpt2 tt
  of_beside Ckpt2 ckpt a1 a2 b1 b2 all = all Ckpt1 tt
  of_beside (Spool n) ckpt a1 a2 b1 b2 all = absurd ckpt

  pub of_each : (dev : Dev) → IsCkpt dev → (a1 a2 : A) (b1 b2 : B) → P dev (pick dev a1 a2) (pick dev b1 b2) → P (other dev Ckpt1 Ckpt2) (other dev a1 a2) (other dev b1 b2) → (d : Dev) → IsCkpt d → P d (pick d a1 a2) (pick d b1 b2)
  of_each Ckpt1 ckpt a1 a2 b1 b2 here there = each (λ d. P d (pick d a1 a2) (pick d b1 b2)) here there
  of_each Ckpt2 ckpt a1 a2 b1 b2 here there = each (λ d. P d (pick d a1 a2) (pick d b1 b2)) there here
  of_each (Spool n) ckpt a1 a2 b1 b2 here there = absurd ckpt

-- of the copy on a device, and of the one beside it
pub each_on : (P : Dev → Type 0) (dev : Dev) → IsCkpt dev → P dev → P (other dev Ckpt1 Ckpt2) → (d : Dev) → IsCkpt d → P d
each_on P dev ckpt here there = of_each {A = ℕ} {B = ℕ} (λ d _ _. P d) dev ckpt 0 0 0 0 here there

-- the same of both
pub pick_same : {A : Type 0} (d : Dev) (a : A) → pick d a a ≡ a
pick_same Ckpt2 a = refl
pick_same _ a = refl

-- where one of the two counts as alive
pub some_of : {X : Type 0} (alive : Dev → Bool) → (alive Ckpt1 || alive Ckpt2) ≡ true → ((d : Dev) → IsCkpt d → alive d ≡ true → X) → X
some_of alive some so = ⊎_elim (λ is. so Ckpt1 tt is) (λ is. so Ckpt2 tt is) (or_cases (alive Ckpt1) (alive Ckpt2) some)

-- where both count as lost
pub dead_of : {C : Type 0} (d : Dev) → IsCkpt d → (one two : Half C) → IsBothLost one.alive two.alive → (pick d one two).alive ≡ false
dead_of d ckpt one two both = each (λ x. (pick x one two).alive ≡ false) both.0 both.1 d ckpt
