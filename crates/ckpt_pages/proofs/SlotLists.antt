-- Slots among which none is wrong, and what stands in them, in order.
use Rattle.std.proofs.Common.{◌≡◌, ℕ, ◌+◌, ◌≤◌, ◌==◌, nat_le, Bool, true, false, ◌||◌, List, [], ◌∷◌, ◌++◌, map, length, Option, Some, None, refl, sym, ap, ◌∙◌, arith}
use Rattle.std.specs.Prelude.{is_some}
use Rattle.std.specs.List.{find, list_any, All}
use Rattle.std.proofs.lemmas.Bool.{or_parts, or_from}
use Rattle.std.proofs.lemmas.Bool.Decides.{nat_tests}
use Rattle.std.proofs.lemmas.List.Elements.{All-nil, All-cons, All-head, All-tail}
use Rattle.mas_types.specs.Fit.{AreDistinct}
use Rattle.lay_bytes.specs.Slots.{IfUsed}
use Rattle.lay_bytes.specs.Used.{used}
use Rattle.mas_types.specs.Sorted.{insert_by, in_order}
use Rattle.ckpt_pages.specs.Sound.{first_wrong, holds_one}

-- cases on a test, with what it gave
pub test_cases : (b : Bool) (P : Type 0) → (b ≡ true → P) → (b ≡ false → P) → P
test_cases true P at_true at_false = at_true refl
test_cases false P at_true at_false = at_false refl

pub eq_sym : (a b : ℕ) → (a == b) ≡ (b == a)
eq_sym a b = grind (arith, nat_tests)

-- TESTS OVER LISTS

module _ {X : Type 0} where
  -- a test that passes where another does
  pub any_weaker : (t u : X → Bool) → ((x : X) → t x ≡ false → u x ≡ false) → (xs : List X) → list_any t xs ≡ false → list_any u xs ≡ false
  any_weaker t u weaker [] h = refl
  any_weaker t u weaker (x ∷ xs) h =
      let parts = or_parts (t x) (list_any t xs) h in
      or_from (u x) (list_any u xs) (weaker x parts.0) (any_weaker t u weaker xs parts.1)

  pub any_never : (t : X → Bool) → ((x : X) → t x ≡ false) → (xs : List X) → list_any t xs ≡ false
  any_never t never [] = refl
  any_never t never (x ∷ xs) = or_from (t x) (list_any t xs) (never x) (any_never t never xs)

  pub any_found : (t : X → Bool) (xs : List X) → list_any t xs ≡ true → is_some (find t xs) ≡ true
  any_found t [] h = absurd (cc)
  any_found t (x ∷ xs) h = test_cases (t x) (is_some (find t (x ∷ xs)) ≡ true) (λ e. rw e refl) (λ e. rw e (any_found t xs (rw e at h)))

  pub distinct_agree : (same other : X → X → Bool) → ((a b : X) → same a b ≡ other a b) → (xs : List X) → AreDistinct same xs → AreDistinct other xs
  distinct_agree same other agree [] d = tt
  distinct_agree same other agree (x ∷ xs) d =
      (any_weaker (same x) (other x) (λ y h. sym (agree x y) ∙ h) xs d.0, distinct_agree same other agree xs d.1)

module _ {X Y : Type 0} (f : X → Y) where
  pub any_map : (t : Y → Bool) (xs : List X) → list_any t (map f xs) ≡ list_any (λ x. t (f x)) xs
  any_map t [] = refl
  any_map t (x ∷ xs) = ap (λ (r : Bool). t (f x) || r) (any_map t xs)

  pub distinct_map : (same : Y → Y → Bool) (xs : List X) → AreDistinct (λ a b. same (f a) (f b)) xs → AreDistinct same (map f xs)
  distinct_map same [] d = tt
  distinct_map same (x ∷ xs) d = (any_map (same (f x)) xs ∙ d.0, distinct_map same xs d.1)

-- NONE IS WRONG

module _ {X : Type 0} (wrong : List X → X → Bool) where
  pub right_first : (before : List X) (at : ℕ) (x : X) (xs : List X) → first_wrong wrong before at (x ∷ xs) ≡ None → (wrong before x ≡ false) × (first_wrong wrong (before ++ x ∷ []) (at + 1) xs ≡ None)
  right_first before at x xs h =
      test_cases (wrong before x) ((wrong before x ≡ false) × (first_wrong wrong (before ++ x ∷ []) (at + 1) xs ≡ None))
      (λ e. absurd (let w = rw e at h in cc))
      (λ e. (e, rw e at h))

  -- what holds of each that isn't wrong holds of all
  pub all_right : (P : X → Type 0) → ((before : List X) (x : X) → wrong before x ≡ false → P x) → (before : List X) (at : ℕ) (xs : List X) → first_wrong wrong before at xs ≡ None → All P xs
  all_right P says before at [] h = All-nil P
  all_right P says before at (x ∷ xs) h =
      let r = right_first before at x xs h in
      All-cons P x xs (says before x r.0) (all_right P says (before ++ x ∷ []) (at + 1) xs r.1)

  -- where each that isn't wrong is no other before it, all are different
  pub apart_right : (same : X → X → Bool) → ((before : List X) (x : X) → wrong before x ≡ false → list_any (λ y. same y x) before ≡ false) → (before : List X) (at : ℕ) (xs : List X) → first_wrong wrong before at xs ≡ None → AreDistinct same xs × All (λ y. list_any (same y) xs ≡ false) before
  apart_right same says before at [] h = (tt, none_later same before)
    where
      none_later : (same : X → X → Bool) (before : List X) → All (λ y. list_any (same y) [] ≡ false) before
      none_later same [] = All-nil (λ y. list_any (same y) [] ≡ false)
      none_later same (y ∷ ys) = All-cons (λ y. list_any (same y) [] ≡ false) y ys refl (none_later same ys)
  apart_right same says before at (x ∷ xs) h =
      let r = right_first before at x xs h in
      let rest = apart_right same says (before ++ x ∷ []) (at + 1) xs r.1 in
      let parts = all_split (λ y. list_any (same y) xs ≡ false) before x rest.1 in
      ((parts.1, rest.0), both same x xs before (says before x r.0) parts.0)
    where
      all_split : (P : X → Type 0) (ys : List X) (x : X) → All P (ys ++ x ∷ []) → All P ys × P x
      all_split P [] x all = (All-nil P, All-head P x [] all)
      all_split P (y ∷ ys) x all =
          let rest = all_split P ys x (All-tail P y (ys ++ x ∷ []) all) in
          (All-cons P y ys (All-head P y (ys ++ x ∷ []) all) rest.0, rest.1)

      both : (same : X → X → Bool) (x : X) (xs before : List X) → list_any (λ y. same y x) before ≡ false → All (λ y. list_any (same y) xs ≡ false) before → All (λ y. list_any (same y) (x ∷ xs) ≡ false) before
      both same x xs [] h all = All-nil (λ y. list_any (same y) (x ∷ xs) ≡ false)
      both same x xs (y ∷ ys) h all =
          let parts = or_parts (same y x) (list_any (λ z. same z x) ys) h in
          All-cons (λ y. list_any (same y) (x ∷ xs) ≡ false) y ys
          (or_from (same y x) (list_any (same y) xs) parts.0 (All-head (λ y. list_any (same y) xs ≡ false) y ys all))
          (both same x xs ys parts.1 (All-tail (λ y. list_any (same y) xs ≡ false) y ys all))

-- WHAT STANDS IN SLOTS

module _ {X : Type 0} where
  -- a test of two items, as a test of two slots: false where one of them is free
  abbrev pub in_slots : (X → X → Bool) → Option X → Option X → Bool
  in_slots same a None = false
  in_slots same a (Some b) = holds_one (λ y. same y b) a

  pub any_used : (t : X → Bool) (slots : List (Option X)) → list_any (holds_one t) slots ≡ list_any t (used slots)
  any_used t [] = refl
  any_used t (None ∷ slots) = any_used t slots
  any_used t (Some x ∷ slots) = ap (λ (r : Bool). t x || r) (any_used t slots)

  any_later : (same : X → X → Bool) (x : X) (slots : List (Option X)) → list_any (in_slots same (Some x)) slots ≡ list_any (same x) (used slots)
  any_later same x [] = refl
  any_later same x (None ∷ slots) = any_later same x slots
  any_later same x (Some y ∷ slots) = ap (λ (r : Bool). same x y || r) (any_later same x slots)

  pub distinct_used : (same : X → X → Bool) (slots : List (Option X)) → AreDistinct (in_slots same) slots → AreDistinct same (used slots)
  distinct_used same [] d = tt
  distinct_used same (None ∷ slots) d = distinct_used same slots d.1
  distinct_used same (Some x ∷ slots) d = (sym (any_later same x slots) ∙ d.0, distinct_used same slots d.1)

  pub all_used : (P : X → Type 0) (slots : List (Option X)) → All (IfUsed P) slots → All P (used slots)
  all_used P [] all = All-nil P
  all_used P (None ∷ slots) all = all_used P slots (All-tail (IfUsed P) None slots all)
  all_used P (Some x ∷ slots) all = All-cons P x (used slots) (All-head (IfUsed P) (Some x) slots all) (all_used P slots (All-tail (IfUsed P) (Some x) slots all))

  pub few_used : (slots : List (Option X)) → length (used slots) ≤ length slots
  few_used [] = omega arith
  few_used (None ∷ slots) = omega (arith, few_used slots)
  few_used (Some x ∷ slots) = omega (arith, few_used slots)

-- ITEMS IN ORDER

swap_or : (a b c : Bool) → (a || (b || c)) ≡ (b || (a || c))
swap_or true true c = refl
swap_or true false c = refl
swap_or false true c = refl
swap_or false false c = refl

module _ {X : Type 0} (number : X → ℕ) where
  all_inserted : (P : X → Type 0) (x : X) (ys : List X) → P x → All P ys → All P (insert_by number x ys)
  all_inserted P x [] px all = All-cons P x [] px all
  all_inserted P x (y ∷ ys) px all =
      test_cases (nat_le (number x) (number y)) (All P (insert_by number x (y ∷ ys)))
      (λ e. rw e (All-cons P x (y ∷ ys) px all))
      (λ e. rw e (All-cons P y (insert_by number x ys) (All-head P y ys all) (all_inserted P x ys px (All-tail P y ys all))))

  pub all_ordered : (P : X → Type 0) (xs : List X) → All P xs → All P (in_order number xs)
  all_ordered P [] all = All-nil P
  all_ordered P (x ∷ xs) all = all_inserted P x (in_order number xs) (All-head P x xs all) (all_ordered P xs (All-tail P x xs all))

  any_inserted : (t : X → Bool) (x : X) (ys : List X) → list_any t (insert_by number x ys) ≡ (t x || list_any t ys)
  any_inserted t x [] = refl
  any_inserted t x (y ∷ ys) =
      test_cases (nat_le (number x) (number y)) (list_any t (insert_by number x (y ∷ ys)) ≡ (t x || (t y || list_any t ys)))
      (λ e. rw e refl)
      (λ e. rw e (ap (λ (r : Bool). t y || r) (any_inserted t x ys) ∙ swap_or (t y) (t x) (list_any t ys)))

  pub any_ordered : (t : X → Bool) (xs : List X) → list_any t (in_order number xs) ≡ list_any t xs
  any_ordered t [] = refl
  any_ordered t (x ∷ xs) = any_inserted t x (in_order number xs) ∙ ap (λ (r : Bool). t x || r) (any_ordered t xs)

  distinct_inserted : (same : X → X → Bool) → ((a b : X) → same a b ≡ same b a) → (x : X) (ys : List X) → list_any (same x) ys ≡ false → AreDistinct same ys → AreDistinct same (insert_by number x ys)
  distinct_inserted same both_ways x [] none d = (refl, tt)
  distinct_inserted same both_ways x (y ∷ ys) none d =
      let parts = or_parts (same x y) (list_any (same x) ys) none in
      test_cases (nat_le (number x) (number y)) (AreDistinct same (insert_by number x (y ∷ ys)))
      (λ e. rw e (none, d))
      (λ e. rw e (
        any_inserted (same y) x ys ∙ or_from (same y x) (list_any (same y) ys) (both_ways y x ∙ parts.0) d.0,
        distinct_inserted same both_ways x ys parts.1 d.1,
      ))

  pub distinct_ordered : (same : X → X → Bool) → ((a b : X) → same a b ≡ same b a) → (xs : List X) → AreDistinct same xs → AreDistinct same (in_order number xs)
  distinct_ordered same both_ways [] d = tt
  distinct_ordered same both_ways (x ∷ xs) d =
      distinct_inserted same both_ways x (in_order number xs) (any_ordered (same x) xs ∙ d.0) (distinct_ordered same both_ways xs d.1)

  length_inserted : (x : X) (ys : List X) → length (insert_by number x ys) ≡ length ys + 1
  length_inserted x [] = refl
  length_inserted x (y ∷ ys) =
      test_cases (nat_le (number x) (number y)) (length (insert_by number x (y ∷ ys)) ≡ length (y ∷ ys) + 1)
      (λ e. rw e (omega arith))
      (λ e. rw e (omega (arith, length_inserted x ys)))

  pub length_ordered : (xs : List X) → length (in_order number xs) ≡ length xs
  length_ordered [] = refl
  length_ordered (x ∷ xs) = omega (arith, length_inserted x (in_order number xs), length_ordered xs)
