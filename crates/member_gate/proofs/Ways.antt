-- A step of a pass, in one of the two ways in which the value is told.
use Rattle.std.proofs.Common.{◌≡◌, ℕ, zero, suc, Bool, true, false, List, [], ◌∷◌, ◌++◌, length, set, refl, sym, ap}
use Rattle.std.specs.Prelude.{map, replicate, slice_set}
use mathlib.Core.Option.{some, some-injective, some-ne-none}
use Rattle.gate_facts.specs.declared.facts.Facts.{Facts}
use Rattle.gate_facts.specs.Memory.{seats, IsLeft}
use Rattle.member_gate.specs.declared.view.View.{View}
use Rattle.member_gate.specs.declared.view.Sight.{Sight}
use Rattle.member_gate.specs.Marking.{grown, single, either_of}
use Rattle.member_gate.specs.Views.{sight, memory_in, taking, sees, seeing, counting, ending, handed, given_to, nothing, opener, spent, both_sights, joined}
use Rattle.member_gate.specs.Rules.{OneWay, one_way, Has}

-- LISTS OF VIEWS

module _ {A B : Type 0} (f : A → B) where
  pub map_set : (xs : List A) (i : ℕ) (x : A) → map f (set xs i x) ≡ set (map f xs) i (f x)
  map_set [] i x = refl
  map_set (y ∷ ys) zero x = refl
  map_set (y ∷ ys) (suc i) x = ap (λ (l : List B). f y ∷ l) (map_set ys i x)

  pub map_snoc : (xs : List A) (x : A) → map f (xs ++ x ∷ []) ≡ map f xs ++ f x ∷ []
  map_snoc [] x = refl
  map_snoc (y ∷ ys) x = ap (λ (l : List B). f y ∷ l) (map_snoc ys x)

  pub has_map : (xs : List A) (i : ℕ) (x : A) → Has xs i x → Has (map f xs) i (f x)
  has_map [] i x e = absurd (some-ne-none x (sym e))
  has_map (y ∷ ys) zero x e = ap (λ (z : A). some (f z)) (some-injective y x e)
  has_map (y ∷ ys) (suc i) x e = has_map ys i x e

-- STEPS

-- the pass counts a value, where there were n entries and are k
abbrev pub counting_one : ℕ → ℕ → OneWay → Facts → OneWay
counting_one n k v is = record v { own = grown v.own n k; sight = seeing v.sight v.member is }

abbrev pub giving_one : ℕ → OneWay → OneWay
giving_one m v = record v { cares = slice_set v.cares m false; given = either_of v.given (single m) }

abbrev pub given_one : ℕ → OneWay → OneWay
given_one m v = record {
  live = true;
  root = false;
  opening = false;
  has = false;
  member = m;
  own = [];
  cares = single m;
  holds = single m;
  given = [];
  sight = handed v.sight;
}

abbrev pub opener_one : Facts → OneWay
opener_one is = record {
  live = true;
  root = true;
  opening = true;
  has = true;
  member = 0;
  own = [];
  cares = replicate seats true;
  holds = single 0;
  given = [];
  sight = sees 0 is;
}

abbrev pub spent_one : OneWay
spent_one = record {
  live = false;
  root = false;
  opening = false;
  has = false;
  member = 0;
  own = [];
  cares = [];
  holds = [];
  given = [];
  sight = sees 0 nothing;
}

abbrev pub joined_one : OneWay → OneWay → OneWay
joined_one v w = record v {
  own = either_of v.own w.own;
  cares = either_of v.cares w.cares;
  holds = either_of v.holds w.holds;
  sight = both_sights w.cares v.sight w.sight;
}

-- EACH STEP IN ONE WAY

pub counting_way : (told : Bool) (v : View) (is : Bool → Facts) → one_way told (counting v is) ≡ counting_one (length v.bare.out.kept) (length (is false).kept) (one_way told v) (is told)
counting_way true v is = refl
counting_way false v is = refl

pub given_way : (told : Bool) (m : ℕ) (v : View) → one_way told (given_to m v) ≡ given_one m (one_way told v)
given_way true m v = refl
given_way false m v = refl

pub opener_way : (told : Bool) (is : Bool → Facts) → one_way told (opener is) ≡ opener_one (is told)
opener_way true is = refl
opener_way false is = refl

pub spent_way : (told : Bool) → one_way told spent ≡ spent_one
spent_way true = refl
spent_way false = refl

pub joined_way : (told : Bool) (v w : View) → one_way told (joined v w) ≡ joined_one (one_way told v) (one_way told w)
joined_way true v w = refl
joined_way false v w = refl

-- what a pass knows of the value when its turn is over, but for what it takes
abbrev pub SameSeen : Sight → Sight → Type 0
SameSeen s t = (s.last ≡ t.last) × (s.desk ≡ t.desk) × (s.stopped ≡ t.stopped) × (s.heard ≡ t.heard)

pub taking_seen : (told : Bool) (v : View) (n : ℕ) (is : Bool → Facts) → SameSeen (sight (taking v n is) told) (sight v told)
taking_seen true v n is = (refl, refl, refl, refl)
taking_seen false v n is = (refl, refl, refl, refl)

pub taking_out : (told : Bool) (v : View) (n : ℕ) (is : Bool → Facts) → (sight (taking v n is) told).out ≡ is told
taking_out true v n is = refl
taking_out false v n is = refl

pub counting_sees : (told : Bool) (v : View) (is : Bool → Facts) → sight (counting v is) told ≡ seeing (sight v told) v.member (is told)
counting_sees true v is = refl
counting_sees false v is = refl

pub opener_out : (told : Bool) (is : Bool → Facts) → (sight (opener is) told).out ≡ is told
opener_out true is = refl
opener_out false is = refl

-- what is left of a pass that gave a value back
pub ended_left : (told : Bool) (v : View) (is : Bool → Facts) → IsLeft v.member (memory_in (ending (counting v is)) told) (is told)
ended_left true v is = record { base = refl; seen = refl; begun = λ k c. refl; lines = λ k c. refl; stopped = refl; desk = refl; marks = refl }
ended_left false v is = record { base = refl; seen = refl; begun = λ k c. refl; lines = λ k c. refl; stopped = refl; desk = refl; marks = refl }
