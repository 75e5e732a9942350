-- Slots, lists in order, and what both say of one another.
use Rattle.std.proofs.Common.{◌≡◌, ℕ, ◌+◌, nat_le, Bool, true, false, ◌||◌, ◌&&◌, List, [], ◌∷◌, ◌++◌, map, Option, Some, None, refl, sym, ap, ◌∙◌, subst}
use Rattle.std.specs.Prelude.{is_some}
use Rattle.std.specs.List.{find, list_any, All}
use Rattle.std.specs.Option.{option_map_or}
use Rattle.std.proofs.lemmas.Bool.{or_parts, or_from}
use Rattle.std.proofs.lemmas.List.Elements.{All-nil, All-cons, All-head, All-tail, All-map}
use Rattle.mas_types.specs.Fit.{AreDistinct}
use Rattle.lay_bytes.specs.Slots.{IfUsed}
use Rattle.lay_bytes.specs.Used.{used}
use Rattle.mas_types.specs.Sorted.{insert_by, in_order}
use Rattle.ckpt_pages.specs.Sound.{first_wrong}
use Rattle.ckpt_pages.proofs.SlotLists.{test_cases, any_never, any_map, any_ordered, distinct_map, in_slots}
use Rattle.queue_slots.specs.Listed.{listed}

-- NONE IS WRONG

-- where items are all different, and each of which none before is the same is right, no item is wrong
module _ {X : Type 0} (wrong : List X → X → Bool) (P : X → Type 0) (same : X → X → Bool) (says : (before : List X) (x : X) → P x → list_any (λ y. same y x) before ≡ false → wrong before x ≡ false) where
  none_before : (x : X) (xs before : List X) → All (λ y. list_any (same y) (x ∷ xs) ≡ false) before → list_any (λ y. same y x) before ≡ false
  none_before x xs [] all = refl
  none_before x xs (y ∷ ys) all =
      let parts = or_parts (same y x) (list_any (same y) xs) (All-head (λ y. list_any (same y) (x ∷ xs) ≡ false) y ys all) in
      or_from (same y x) (list_any (λ z. same z x) ys) parts.0 (none_before x xs ys (All-tail (λ y. list_any (same y) (x ∷ xs) ≡ false) y ys all))

  none_later : (x : X) (xs before : List X) → list_any (same x) xs ≡ false → All (λ y. list_any (same y) (x ∷ xs) ≡ false) before → All (λ y. list_any (same y) xs ≡ false) (before ++ x ∷ [])
  none_later x xs [] own all = All-cons (λ y. list_any (same y) xs ≡ false) x [] own (All-nil (λ y. list_any (same y) xs ≡ false))
  none_later x xs (y ∷ ys) own all =
      let parts = or_parts (same y x) (list_any (same y) xs) (All-head (λ y. list_any (same y) (x ∷ xs) ≡ false) y ys all) in
      All-cons (λ y. list_any (same y) xs ≡ false) y (ys ++ x ∷ []) parts.1 (none_later x xs ys own (All-tail (λ y. list_any (same y) (x ∷ xs) ≡ false) y ys all))

  right_from : (before : List X) (at : ℕ) (xs : List X) → All P xs → AreDistinct same xs → All (λ y. list_any (same y) xs ≡ false) before → first_wrong wrong before at xs ≡ None
  right_from before at [] all d apart = refl
  right_from before at (x ∷ xs) all d apart =
      let right : wrong before x ≡ false = says before x (All-head P x xs all) (none_before x xs before apart) in
      rw right (right_from (before ++ x ∷ []) (at + 1) xs (All-tail P x xs all) d.1 (none_later x xs before d.0 apart))

  pub all_are_right : (at : ℕ) (xs : List X) → All P xs → AreDistinct same xs → first_wrong wrong [] at xs ≡ None
  all_are_right at xs all d = right_from [] at xs all d (All-nil (λ y. list_any (same y) xs ≡ false))

-- where no item is wrong by itself, no first wrong item is found
pub each_is_right : {X : Type 0} (wrong : X → Bool) (before : List X) (at : ℕ) (xs : List X) → All (λ x. wrong x ≡ false) xs → first_wrong (λ b x. wrong x) before at xs ≡ None
each_is_right wrong before at [] all = refl
each_is_right wrong before at (x ∷ xs) all =
    let right : wrong x ≡ false = All-head (λ x. wrong x ≡ false) x xs all in
    rw right (each_is_right wrong (before ++ x ∷ []) (at + 1) xs (All-tail (λ x. wrong x ≡ false) x xs all))

-- WHAT STANDS IN SLOTS

module _ {X : Type 0} where
  pub all_slots : (P : X → Type 0) (slots : List (Option X)) → All P (used slots) → All (IfUsed P) slots
  all_slots P [] all = All-nil (IfUsed P)
  all_slots P (None ∷ slots) all = All-cons (IfUsed P) None slots tt (all_slots P slots all)
  all_slots P (Some x ∷ slots) all = All-cons (IfUsed P) (Some x) slots (All-head P x (used slots) all) (all_slots P slots (All-tail P x (used slots) all))

  never_free : (same : X → X → Bool) (slot : Option X) → in_slots same None slot ≡ false
  never_free same None = refl
  never_free same (Some x) = refl

  any_behind : (same : X → X → Bool) (x : X) (slots : List (Option X)) → list_any (in_slots same (Some x)) slots ≡ list_any (same x) (used slots)
  any_behind same x [] = refl
  any_behind same x (None ∷ slots) = any_behind same x slots
  any_behind same x (Some y ∷ slots) = ap (λ (r : Bool). same x y || r) (any_behind same x slots)

  pub distinct_slots : (same : X → X → Bool) (slots : List (Option X)) → AreDistinct same (used slots) → AreDistinct (in_slots same) slots
  distinct_slots same [] d = tt
  distinct_slots same (None ∷ slots) d = (any_never (in_slots same None) (never_free same) slots, distinct_slots same slots d)
  distinct_slots same (Some x ∷ slots) d = (any_behind same x slots ∙ d.0, distinct_slots same slots d.1)

  any_or : (t u : X → Bool) (xs : List X) → list_any t xs ≡ false → list_any u xs ≡ false → list_any (λ x. t x || u x) xs ≡ false
  any_or t u [] a b = refl
  any_or t u (x ∷ xs) a b =
      let p = or_parts (t x) (list_any t xs) a in
      let q = or_parts (u x) (list_any u xs) b in
      or_from (t x || u x) (list_any (λ z. t z || u z) xs) (or_from (t x) (u x) p.0 q.0) (any_or t u xs p.1 q.1)

  pub distinct_or : (one two : X → X → Bool) (xs : List X) → AreDistinct one xs → AreDistinct two xs → AreDistinct (λ a b. one a b || two a b) xs
  distinct_or one two [] a b = tt
  distinct_or one two (x ∷ xs) a b = (any_or (one x) (two x) xs a.0 b.0, distinct_or one two xs a.1 b.1)

-- ITEMS IN ORDER

swap_or : (a b c : Bool) → (a || (b || c)) ≡ (b || (a || c))
swap_or true true c = refl
swap_or true false c = refl
swap_or false true c = refl
swap_or false false c = refl

module _ {X : Type 0} (number : X → ℕ) where
  any_put_in : (t : X → Bool) (x : X) (ys : List X) → list_any t (insert_by number x ys) ≡ (t x || list_any t ys)
  any_put_in t x [] = refl
  any_put_in t x (y ∷ ys) =
      test_cases (nat_le (number x) (number y)) (list_any t (insert_by number x (y ∷ ys)) ≡ (t x || (t y || list_any t ys)))
      (λ e. rw e refl)
      (λ e. rw e (ap (λ (r : Bool). t y || r) (any_put_in t x ys) ∙ swap_or (t y) (t x) (list_any t ys)))

  all_taken_out : (P : X → Type 0) (x : X) (ys : List X) → All P (insert_by number x ys) → P x × All P ys
  all_taken_out P x [] all = (All-head P x [] all, All-nil P)
  all_taken_out P x (y ∷ ys) all = test_cases (nat_le (number x) (number y)) (P x × All P (y ∷ ys))
      (λ e. let front : All P (x ∷ y ∷ ys) = rw e at all in (All-head P x (y ∷ ys) front, All-tail P x (y ∷ ys) front))
      (λ e. let behind : All P (y ∷ insert_by number x ys) = rw e at all in
      let rest = all_taken_out P x ys (All-tail P y (insert_by number x ys) behind) in
      (rest.0, All-cons P y ys (All-head P y (insert_by number x ys) behind) rest.1))

  all_of_ordered : (P : X → Type 0) (xs : List X) → All P (in_order number xs) → All P xs
  all_of_ordered P [] all = All-nil P
  all_of_ordered P (x ∷ xs) all =
      let both = all_taken_out P x (in_order number xs) all in
      All-cons P x xs both.0 (all_of_ordered P xs both.1)

  module _ (same : X → X → Bool) (both_ways : (a b : X) → same a b ≡ same b a) where
    distinct_taken_out : (x : X) (ys : List X) → AreDistinct same (insert_by number x ys) → (list_any (same x) ys ≡ false) × AreDistinct same ys
    distinct_taken_out x [] d = (refl, tt)
    distinct_taken_out x (y ∷ ys) d = test_cases (nat_le (number x) (number y)) ((list_any (same x) (y ∷ ys) ≡ false) × AreDistinct same (y ∷ ys))
        (λ e. let front : AreDistinct same (x ∷ y ∷ ys) = rw e at d in (front.0, front.1))
        (λ e. let behind : AreDistinct same (y ∷ insert_by number x ys) = rw e at d in
        let none : (same y x || list_any (same y) ys) ≡ false = sym (any_put_in (same y) x ys) ∙ behind.0 in
        let parts = or_parts (same y x) (list_any (same y) ys) none in
        let rest = distinct_taken_out x ys behind.1 in
        (or_from (same x y) (list_any (same x) ys) (both_ways x y ∙ parts.0) rest.0, (parts.1, rest.1)))

    distinct_of_ordered : (xs : List X) → AreDistinct same (in_order number xs) → AreDistinct same xs
    distinct_of_ordered [] d = tt
    distinct_of_ordered (x ∷ xs) d =
        let parts = distinct_taken_out x (in_order number xs) d in
        (sym (any_ordered number (same x) xs) ∙ parts.0, distinct_of_ordered xs parts.1)

-- WHAT IS TOLD

module _ {A B : Type 0} (f : A → B) where
  all_of_map : (P : B → Type 0) (xs : List A) → All P (map f xs) → All (λ x. P (f x)) xs
  all_of_map P [] all = All-nil (λ x. P (f x))
  all_of_map P (x ∷ xs) all = All-cons (λ x. P (f x)) x xs (All-head P (f x) (map f xs) all) (all_of_map P xs (All-tail P (f x) (map f xs) all))

  distinct_of_map : (same : B → B → Bool) (xs : List A) → AreDistinct same (map f xs) → AreDistinct (λ a b. same (f a) (f b)) xs
  distinct_of_map same [] d = tt
  distinct_of_map same (x ∷ xs) d = (sym (any_map f (same (f x)) xs) ∙ d.0, distinct_of_map same xs d.1)

-- what holds of items by what both show holds of the records that tell them
module _ {A B C : Type 0} (number : A → ℕ) (shown : A → C) (shows : B → C) (slots : List (Option A)) (items : List B) (told : map shown (listed number slots) ≡ map shows items) where
  pub all_told : (P : C → Type 0) → All (λ b. P (shows b)) items → All (λ a. P (shown a)) (used slots)
  all_told P all =
      all_of_ordered number (λ a. P (shown a)) (used slots) (all_of_map shown P (listed number slots)
      (subst (λ (cs : List C). All P cs) (sym told) (All-map P shows items all)))

  pub distinct_told : (same : C → C → Bool) → ((a b : C) → same a b ≡ same b a) → AreDistinct (λ a b. same (shows a) (shows b)) items → AreDistinct (λ a b. same (shown a) (shown b)) (used slots)
  distinct_told same both_ways d =
      distinct_of_ordered number (λ a b. same (shown a) (shown b)) (λ a b. both_ways (shown a) (shown b)) (used slots) (distinct_of_map shown same (listed number slots)
      (subst (λ (cs : List C). AreDistinct same cs) (sym told) (distinct_map shows same items d)))

  pub any_told : (t : C → Bool) → list_any (λ a. t (shown a)) (used slots) ≡ list_any (λ b. t (shows b)) items
  any_told t =
      sym (any_ordered number (λ a. t (shown a)) (used slots)) ∙ sym (any_map shown t (listed number slots)) ∙ ap (list_any t) told ∙ any_map shows t items

-- WHAT IS FOUND

-- where the first that a test picks passes another, one passes both
pub found_passes : {X : Type 0} (p test : X → Bool) (xs : List X) → option_map_or test (find p xs) false ≡ true → list_any (λ x. p x && test x) xs ≡ true
found_passes p test [] h = absurd (cc)
found_passes p test (x ∷ xs) h =
    test_cases (p x) (list_any (λ x. p x && test x) (x ∷ xs) ≡ true)
    (λ e. let passes : test x ≡ true = rw e at h in rw (e, passes) refl)
    (λ e. let rest : option_map_or test (find p xs) false ≡ true = rw e at h in rw e (found_passes p test xs rest))

-- one that is found is there
pub found_there : {X : Type 0} (p : X → Bool) (xs : List X) → is_some (find p xs) ≡ true → list_any p xs ≡ true
found_there p [] h = absurd (cc)
found_there p (x ∷ xs) h =
    test_cases (p x) (list_any p (x ∷ xs) ≡ true)
    (λ e. rw e refl)
    (λ e. let rest : is_some (find p xs) ≡ true = rw e at h in rw e (found_there p xs rest))
