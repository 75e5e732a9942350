-- The first class that any record has.
use Rattle.std.proofs.Common.{◌≡◌, ℕ, zero, suc, replicate, ◌<◌, ◌≤◌, Bool, true, false, ◌&&◌, ◌==◌, List, [], ◌∷◌, length, get_or, Option, Some, None, refl, sym, ap, ◌∙◌, subst, arith, slice_get, set, drop, ◌+◌, ◌-◌, length-drop, get_or-set_other, get_or-set_same}
use mathlib.Core.Path.{fun_ext}
use Rattle.std.proofs.lemmas.List.{drop_more, drop_all}
use Rattle.std.specs.Prelude.{find, not, if◌then◌else◌, IfSome, IfNone}
use Rattle.std.specs.List.{list_any, All}
use Rattle.std.proofs.lemmas.Bool.{eq-eqb}
use Rattle.std.proofs.lemmas.Bool.Decides.{nat_tests}
use Rattle.std.proofs.lemmas.Option.{slice_get_within}
use Rattle.std.proofs.lemmas.List.Elements.{All-head, All-tail, All-weaker}
use Rattle.mas_types.specs.declared.ids.Class.{Class}
use Rattle.mas_types.specs.Lists.{is_greatest_of, has_first_key_of}
use Rattle.lay_bytes.specs.Used.{used}
use Rattle.queue_slots.specs.declared.slots.Found.{Found}
use Rattle.queue_slots.specs.declared.walking.Best.{Best}
use Rattle.queue_slots.specs.Listed.{listed, StandsFirst}
use Rattle.queue_slots.specs.Best.{found_of, IsBestOf, IsWalked}
use Rattle.queue_slots.specs.Keys.{class_key, is_of}
use Rattle.queue_slots.proofs.Cases.{test_cases}
use Rattle.queue_slots.proofs.Rising.{All-in_order}
use Rattle.queue_slots.proofs.FirstSlots.{All-used, stands_first}
use Rattle.queue_slots.proofs.BestSlots.{both_true, and_true, walked_some, walked_none, nothing_listed, best_of_all}

module _ {X : Type 0} where
  -- where no item is found, none passes the test
  pub any-none : (t : X → Bool) (xs : List X) → find t xs ≡ None → list_any t xs ≡ false
  any-none t [] none = refl
  any-none t (x ∷ xs) none =
      test_cases (t x) (list_any t (x ∷ xs) ≡ false) (λ e. absurd (let w = rw e at none in cc)) (λ e. rw e (any-none t xs (rw e at none)))

  -- where an item is found, one passes the test
  pub any-some : (t : X → Bool) (xs : List X) (x : X) → find t xs ≡ Some x → list_any t xs ≡ true
  any-some t [] x some = absurd (cc)
  any-some t (y ∷ xs) x some =
      test_cases (t y) (list_any t (y ∷ xs) ≡ true) (λ e. rw e refl) (λ e. rw e (any-some t xs x (rw e at some)))

  -- one that is found is there for each test that it passes
  any-found : (q p : X → Bool) (xs : List X) (x : X) → find q xs ≡ Some x → p x ≡ true → list_any p xs ≡ true
  any-found q p [] x some h = absurd (cc)
  any-found q p (y ∷ xs) x some h =
      test_cases (p y) (list_any p (y ∷ xs) ≡ true) (λ e. rw e refl)
      (λ e. rw e (any-found q p xs x (test_cases (q y) (find q xs ≡ Some x) (λ t. absurd (let is : y ≡ x = (let w = rw t at some in cc) in let v = ap p is in cc)) (λ t. rw t at some)) h))

  any-false : (p : X → Bool) (xs : List X) → All (λ y. p y ≡ false) xs → list_any p xs ≡ false
  any-false p [] all = refl
  any-false p (y ∷ ys) all = rw (All-head (λ z. p z ≡ false) y ys all) (any-false p ys (All-tail (λ z. p z ≡ false) y ys all))

-- KEYS

low_key : (ks : List Class) (c : ℕ) → class_key ks c ≤ length ks
low_key [] c = omega arith
low_key (k ∷ ks) c =
    let low = low_key ks c in
    test_cases (c == k.0) (class_key (k ∷ ks) c ≤ length (k ∷ ks)) (λ e. rw e (omega arith)) (λ e. rw e (omega arith))

-- one class more in front
key_grows : (k : Class) (ks : List Class) (c : ℕ) → class_key ks c ≤ class_key (k ∷ ks) c
key_grows k ks c =
    let low = low_key ks c in
    test_cases (c == k.0) (class_key ks c ≤ class_key (k ∷ ks) c) (λ e. rw e (omega arith)) (λ e. rw e (omega arith))

module _ {X : Type 0} (class : X → Class) (t : X → Bool) (xs : List X) where
  -- a class that some have
  key_some : (k : Class) (ks : List Class) → list_any (λ y. t y && is_of class k y) xs ≡ true → (λ (x : X). t x && is_of class k x) ≡ has_first_key_of (is_of class) (k ∷ ks) t xs
  key_some k ks e = ap (λ (b : Bool). λ (x : X). if b then t x && is_of class k x else has_first_key_of (is_of class) ks t xs x) (sym e)

  -- a class that none has
  key_none : (k : Class) (ks : List Class) → list_any (λ y. t y && is_of class k y) xs ≡ false → has_first_key_of (is_of class) (k ∷ ks) t xs ≡ has_first_key_of (is_of class) ks t xs
  key_none k ks e = ap (λ (b : Bool). λ (x : X). if b then t x && is_of class k x else has_first_key_of (is_of class) ks t xs x) e

  -- the first class that any has is this record's, and whatever has it has no lesser key
  record IsFirstKey (ks : List Class) (x : X) : Type 0 where
    key : Class
    same : (λ (y : X). t y && is_of class key y) ≡ has_first_key_of (is_of class) ks t xs
    has : is_of class key x ≡ true
    up : (y : X) → is_of class key y ≡ true → class_key ks (class x).0 ≤ class_key ks (class y).0

  first_key : (ks : List Class) (x : X) → ((p : X → Bool) → p x ≡ true → list_any p xs ≡ true) → t x ≡ true → 1 ≤ class_key ks (class x).0
      → All (λ y. t y ≡ true → class_key ks (class y).0 ≤ class_key ks (class x).0) xs → IsFirstKey ks x
  first_key [] x there picked some most = absurd (omega arith)
  first_key (k ∷ ks) x there picked some most =
      test_cases (is_of class k x) (IsFirstKey (k ∷ ks) x)
      (λ e. record {
        key = k;
        same = key_some k ks (there (λ y. t y && is_of class k y) (and_true (t x) (is_of class k x) picked e));
        has = e;
        up = λ y h. rw (e, h) (omega arith);
      })
      (λ e. let here : class_key (k ∷ ks) (class x).0 ≡ class_key ks (class x).0 = rw e refl in
      let low = low_key ks (class x).0 in
      let none = any-false (λ y. t y && is_of class k y) xs
      (All-weaker (λ z. t z ≡ true → class_key (k ∷ ks) (class z).0 ≤ class_key (k ∷ ks) (class x).0) (λ z. (t z && is_of class k z) ≡ false)
      (λ z v. test_cases (t z && is_of class k z) ((t z && is_of class k z) ≡ false)
      (λ h. let parts = both_true (t z) (is_of class k z) h in
      let top : class_key (k ∷ ks) (class z).0 ≡ suc (length ks) = rw parts.1 refl in
      let w = v parts.0 in absurd (omega arith))
      (λ h. h)) xs most) in
      let rest = All-weaker (λ z. t z ≡ true → class_key (k ∷ ks) (class z).0 ≤ class_key (k ∷ ks) (class x).0) (λ z. t z ≡ true → class_key ks (class z).0 ≤ class_key ks (class x).0)
      (λ z v sure. let w = v sure in let grows = key_grows k ks (class z).0 in omega arith) xs most in
      let it = first_key ks x there picked (omega arith) rest in
      record {
        key = it.key;
        same = it.same ∙ sym (key_none k ks none);
        has = it.has;
        up = λ y h. let u = it.up y h in let grows = key_grows k ks (class y).0 in omega arith;
      })

  -- where none that is picked has a key, none has a first class
  no_first_key : (ks : List Class) → All (λ y. (not (class_key ks (class y).0 == 0) && t y) ≡ false) xs → has_first_key_of (is_of class) ks t xs ≡ (λ (x : X). false)
  no_first_key [] all = refl
  no_first_key (k ∷ ks) all =
      let none = any-false (λ y. t y && is_of class k y) xs
      (All-weaker (λ z. (not (class_key (k ∷ ks) (class z).0 == 0) && t z) ≡ false) (λ z. (t z && is_of class k z) ≡ false)
      (λ z v. test_cases (t z && is_of class k z) ((t z && is_of class k z) ≡ false)
      (λ h. let parts = both_true (t z) (is_of class k z) h in
      let top : class_key (k ∷ ks) (class z).0 ≡ suc (length ks) = rw parts.1 refl in
      absurd (let off : (class_key (k ∷ ks) (class z).0 == 0) ≡ false = not_zero (class_key (k ∷ ks) (class z).0) (omega arith) in let w = rw (off, parts.0) at v in let w' : true ≡ false = w in cc))
      (λ h. h)) xs all) in
      let rest = All-weaker (λ z. (not (class_key (k ∷ ks) (class z).0 == 0) && t z) ≡ false) (λ z. (not (class_key ks (class z).0 == 0) && t z) ≡ false)
      (λ z v. test_cases (class_key ks (class z).0 == 0) ((not (class_key ks (class z).0 == 0) && t z) ≡ false)
      (λ e. rw e refl)
      (λ e. let grows = key_grows k ks (class z).0 in
      let off : (class_key (k ∷ ks) (class z).0 == 0) ≡ false = not_zero (class_key (k ∷ ks) (class z).0) (let some : 1 ≤ class_key ks (class z).0 = grind (arith, nat_tests, e) in omega arith) in
      rw e (rw off at v))) xs all in
      key_none k ks none ∙ no_first_key ks rest
    where
      not_zero : (n : ℕ) → 1 ≤ n → (n == 0) ≡ false
      not_zero n h = test_cases (n == 0) ((n == 0) ≡ false) (λ e. absurd (let is : n ≡ 0 = grind (arith, nat_tests, e) in omega arith)) (λ e. e)

no_key_left : {X : Type 0} (rank : X → ℕ) (xs ys : List X) → find (is_greatest_of rank (λ x. false) xs) ys ≡ None
no_key_left rank xs [] = refl
no_key_left rank xs (y ∷ ys) = no_key_left rank xs ys

zeros : (n c : ℕ) → ◌≡◌ {A = ℕ} (get_or (replicate {A = ℕ} n 0) c 0) 0
zeros zero c = refl
zeros (suc n) zero = refl
zeros (suc n) (suc c) = zeros n c

-- before the key of any class is written, all keys are 0
pub keys_start : (ks : List Class) (c : ℕ) → get_or (replicate {A = ℕ} 256 0) c 0 ≡ class_key (drop (length ks) ks) c
keys_start ks c = zeros 256 c ∙ sym (ap (λ (left : List Class). class_key left c) (drop_all (length ks) ks (omega arith)))

-- the keys of the classes from a place on, where one more is written
pub keys_down : (ks : List Class) (i j n : ℕ) (k : Class) (keys : List ℕ) → i < length ks → j ≡ i + 1 → n ≡ length ks - i → k ≡ get_or ks i k → k.0 < length keys
    → ((c : ℕ) → get_or keys c 0 ≡ class_key (drop j ks) c) → (c : ℕ) → get_or (set keys k.0 n) c 0 ≡ class_key (drop i ks) c
keys_down ks i j n k keys inside next many is room so_far c =
    let left : drop i ks ≡ k ∷ drop j ks = drop_more ks i k inside ∙ (rw (← is, next) refl) in
    let long = length-drop {A = Class} j ks in
    rw left
    (test_cases (c == k.0) (get_or (set keys k.0 n) c 0 ≡ class_key (k ∷ drop j ks) c)
    (λ e. let same : c ≡ k.0 = grind (arith, nat_tests, e) in
    let top : n ≡ suc (length (drop j ks)) = omega arith in
    rw e (rw same (get_or-set_same keys k.0 n 0 room ∙ top)))
    (λ e. rw e (get_or-set_other keys k.0 c n 0 (λ same. let t = eq-eqb c k.0 same in absurd (let w : true ≡ false = sym t ∙ e in cc)) ∙ so_far c)))

-- WHAT A WALK BY CLASS FINDS

module _ {X : Type 0} (number rank : X → ℕ) (class : X → Class) (picks : X → Bool) (ks : List Class) where
  abbrev key : X → ℕ
  key x = class_key ks (class x).0

  abbrev weighs : X → Bool
  weighs x = not (key x == 0) && picks x

  some_key : (x : X) → weighs x ≡ true → 1 ≤ key x
  some_key x h =
      let parts = both_true (not (key x == 0)) (picks x) h in
      test_cases (key x == 0) (1 ≤ key x) (λ e. absurd (let w = rw e at parts.0 in cc)) (λ e. grind (arith, nat_tests, e))

  weighs_with : (x : X) → 1 ≤ key x → picks x ≡ true → weighs x ≡ true
  weighs_with x some sure =
      test_cases (key x == 0) (weighs x ≡ true) (λ e. absurd (let is : key x ≡ 0 = grind (arith, nat_tests, e) in omega arith)) (λ e. rw e sure)

  module _ (slots : List (Option X)) (f : Found X) (best : IsBestOf number key rank weighs slots (length slots) f) where
    abbrev ties : X → Bool
    ties z = weighs z && ((key z == key f.item) && (rank z == rank f.item))

    tied : (y : X) → ties y ≡ true → (weighs y ≡ true) × (key y ≡ key f.item) × (rank y ≡ rank f.item)
    tied y h =
        let parts = both_true (weighs y) ((key y == key f.item) && (rank y == rank f.item)) h in
        let more = both_true (key y == key f.item) (rank y == rank f.item) parts.1 in
        (parts.0, grind (arith, nat_tests, more.0), grind (arith, nat_tests, more.1))

    stands : StandsFirst number ties slots f.at f.item
    stands = stands_first number ties slots f.at f.item record {
      here = best.here;
      picked = and_true (weighs f.item) ((key f.item == key f.item) && (rank f.item == rank f.item)) best.picked
          (and_true (key f.item == key f.item) (rank f.item == rank f.item) (eq-eqb (key f.item) (key f.item) refl) (eq-eqb (rank f.item) (rank f.item) refl));
      before = λ j y below e picked. let it = tied y picked in best.before j y below e it.0 it.1 it.2;
      least = λ j y e picked. let it = tied y picked in best.least j y (slice_get_within slots j (Some y) e) e it.0 it.1 it.2;
    }

    low : (j : ℕ) (y : X) → slice_get slots j ≡ Some (Some y) → picks y ≡ true → key y ≤ key f.item
    low j y e sure =
        test_cases (key y == 0) (key y ≤ key f.item)
        (λ z. let is : key y ≡ 0 = grind (arith, nat_tests, z) in omega arith)
        (λ z. best.keys j y (slice_get_within slots j (Some y) e) e (weighs_with y (grind (arith, nat_tests, z)) sure))

    first : IsFirstKey class picks (listed number slots) ks f.item
    first =
        first_key class picks (listed number slots) ks f.item (λ p h. any-found ties p (listed number slots) f.item stands.first h)
        (both_true (not (key f.item == 0)) (picks f.item) best.picked).1 (some_key f.item best.picked)
        (All-in_order number (λ y. picks y ≡ true → key y ≤ key f.item) (used slots) (All-used (λ y. picks y ≡ true → key y ≤ key f.item) slots low))

    -- an item that is picked and of the best one's class has the best one's key, and weighs
    same_key : (j : ℕ) (y : X) → slice_get slots j ≡ Some (Some y) → (picks y && is_of class first.key y) ≡ true → (weighs y ≡ true) × (key y ≡ key f.item)
    same_key j y e h =
        let parts = both_true (picks y) (is_of class first.key y) h in
        let up = first.up y parts.1 in
        let some = some_key f.item best.picked in
        let down = low j y e parts.0 in
        (weighs_with y (omega arith) parts.0, omega arith)

    pub keyed_best : StandsFirst number (is_greatest_of rank (has_first_key_of (is_of class) ks picks (listed number slots)) (listed number slots)) slots f.at f.item
    keyed_best =
        subst (λ (test : X → Bool). StandsFirst number (is_greatest_of rank test (listed number slots)) slots f.at f.item) first.same
        (best_of_all number rank (λ y. picks y && is_of class first.key y) slots f record {
          here = best.here;
          below = best.below;
          picked = and_true (picks f.item) (is_of class first.key f.item) (both_true (not (key f.item == 0)) (picks f.item) best.picked).1 first.has;
          keys = λ j y within e sure. omega arith;
          ranks = λ j y within e sure one. let it = same_key j y e sure in best.ranks j y within e it.0 it.1;
          before = λ j y below e sure one again. let it = same_key j y e sure in best.before j y below e it.0 it.1 again;
          least = λ j y within e sure one again. let it = same_key j y e sure in best.least j y within e it.0 it.1 again;
        })

  module _ (keys : List ℕ) (are : (c : ℕ) → get_or keys c 0 ≡ class_key ks c) (slots : List (Option X)) (o : Option Best)
      (walked : IsWalked number (λ x. get_or keys (class x).0 0) rank (λ x. not (get_or keys (class x).0 0 == 0) && picks x) slots (length slots) o) where
    by_key : IsWalked number key rank weighs slots (length slots) o
    by_key =
        let same : (λ (x : X). get_or keys (class x).0 0) ≡ key = fun_ext (λ x. are (class x).0) in
        subst (λ (n : X → ℕ). IsWalked number n rank (λ x. not (n x == 0) && picks x) slots (length slots) o) same walked

    pub keyed_some : IfSome (found_of slots o) (λ f. StandsFirst number (is_greatest_of rank (has_first_key_of (is_of class) ks picks (listed number slots)) (listed number slots)) slots f.at f.item)
    keyed_some =
        walked_some number key rank weighs slots o by_key
        (λ f. StandsFirst number (is_greatest_of rank (has_first_key_of (is_of class) ks picks (listed number slots)) (listed number slots)) slots f.at f.item) (keyed_best slots)

    pub keyed_none : IfNone (found_of slots o) (find (is_greatest_of rank (has_first_key_of (is_of class) ks picks (listed number slots)) (listed number slots)) (listed number slots) ≡ None)
    keyed_none =
        walked_none number key rank weighs slots o by_key (find (is_greatest_of rank (has_first_key_of (is_of class) ks picks (listed number slots)) (listed number slots)) (listed number slots) ≡ None)
        (λ none. subst (λ (test : X → Bool). find (is_greatest_of rank test (listed number slots)) (listed number slots) ≡ None)
        (sym (no_first_key class picks (listed number slots) ks (nothing_listed number key rank weighs slots none))) (no_key_left rank (listed number slots) (listed number slots)))
