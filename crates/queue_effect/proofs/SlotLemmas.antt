-- What slots tell of the list where each of them is changed, and how many a test picks.
use Rattle.std.proofs.Common.{◌≡◌, ℕ, zero, suc, ◌≤◌, Bool, List, [], ◌∷◌, length, map, Option, Some, None, slice_get, set, refl, sym, ap, ◌∙◌, arith}
use Rattle.std.specs.Prelude.{filter, option_map, count_by, if◌then◌else◌}
use Rattle.std.proofs.Math.Path.{fun_ext}
use Rattle.std.proofs.lemmas.List.Sums.{length-filter}
use Rattle.mas_types.specs.Lists.{change, without, change_at}
use Rattle.lay_bytes.specs.Used.{used}
use Rattle.mas_types.specs.Sorted.{insert_by, in_order}
use Rattle.queue_slots.specs.Listed.{listed}
use Rattle.queue_slots.specs.Telling.{Tell}
use Rattle.queue_slots.proofs.Alike.{without-alike, change-alike, filter-alike, length-alike}
use Rattle.queue_slots.proofs.Cases.{test_cases}
use Rattle.queue_slots.proofs.Changes.{emptied_if, listed-emptied, listed-map}
use Rattle.queue_slots.proofs.Rising.{placed}
use Rattle.mas_types.proofs.Sorting.{insert_by-before, insert_by-after}
use Rattle.queue_effect.specs.Slots.{emptied_where}
use Rattle.queue_resets.specs.Resets.{changed_where}

module _ {A B C : Type 0} (number : A → ℕ) (u : A → C) (v : B → C) (p : C → Bool) where
  same_emptied : (s : Option A) → emptied_where (λ a. p (u a)) s ≡ emptied_if number (λ a. p (u a)) s
  same_emptied None = refl
  same_emptied (Some a) = refl

  -- the slots that the test picks are emptied
  pub emptied_told : (slots : List (Option A)) (items : List B) → Tell number u v slots items → Tell number u v (map (emptied_where (λ a. p (u a))) slots) (without (λ b. p (v b)) items)
  emptied_told slots items tell =
      let same : map (emptied_where (λ a. p (u a))) slots ≡ map (emptied_if number (λ a. p (u a))) slots = ap (λ (f : Option A → Option A). map f slots) (fun_ext same_emptied) in
      rw (same, listed-emptied number (λ a. p (u a)) slots) (without-alike u v p (listed number slots) items tell)

  module _ (f : A → A) (g : B → B) (keeps : (a : A) → number (f a) ≡ number a) (so : (a : A) (b : B) → u a ≡ v b → u (f a) ≡ v (g b)) where
    abbrev change_one : A → A
    change_one a = if p (u a) then f a else a

    same_changed : (s : Option A) → changed_where (λ a. p (u a)) f s ≡ option_map change_one s
    same_changed None = refl
    same_changed (Some a) = refl

    keeps_one : (a : A) → number (change_one a) ≡ number a
    keeps_one a = test_cases (p (u a)) (number (change_one a) ≡ number a) (λ e. rw e (keeps a)) (λ e. rw e refl)

    -- what stands in the slots that the test picks is changed
    pub changed_told : (slots : List (Option A)) (items : List B) → Tell number u v slots items → Tell number u v (map (changed_where (λ a. p (u a)) f) slots) (change (λ b. p (v b)) g items)
    changed_told slots items tell =
        let same : map (changed_where (λ a. p (u a)) f) slots ≡ map (option_map change_one) slots = ap (λ (h : Option A → Option A). map h slots) (fun_ext same_changed) in
        rw (same, listed-map number change_one keeps_one slots) (change-alike u v p f g so (listed number slots) items tell)

module _ {X : Type 0} (number : X → ℕ) (p : X → Bool) where
  filtered-insert_by : (x : X) (ys : List X) → length (filter p (insert_by number x ys)) ≡ length (filter p (x ∷ ys))
  filtered-insert_by x [] = refl
  filtered-insert_by x (y ∷ ys) =
      let later = filtered-insert_by x ys in
      placed number x y (length (filter p (insert_by number x (y ∷ ys))) ≡ length (filter p (x ∷ y ∷ ys)))
      (λ h. rw (insert_by-before number x y ys h) refl)
      (λ h. rw (insert_by-after number x y ys h)
      (test_cases (p y) (length (filter p (y ∷ insert_by number x ys)) ≡ length (filter p (x ∷ y ∷ ys)))
      (λ e. test_cases (p x) (length (filter p (y ∷ insert_by number x ys)) ≡ length (filter p (x ∷ y ∷ ys)))
      (λ d. let more : length (filter p (insert_by number x ys)) ≡ suc (length (filter p ys)) = rw d at later in rw (e, d) (omega arith))
      (λ d. let more : length (filter p (insert_by number x ys)) ≡ length (filter p ys) = rw d at later in rw (e, d) (omega arith)))
      (λ e. test_cases (p x) (length (filter p (y ∷ insert_by number x ys)) ≡ length (filter p (x ∷ y ∷ ys)))
      (λ d. let more : length (filter p (insert_by number x ys)) ≡ suc (length (filter p ys)) = rw d at later in rw (e, d) more)
      (λ d. let more : length (filter p (insert_by number x ys)) ≡ length (filter p ys) = rw d at later in rw (e, d) more))))

  filtered-in_order : (xs : List X) → length (filter p (in_order number xs)) ≡ length (filter p xs)
  filtered-in_order [] = refl
  filtered-in_order (x ∷ xs) =
      let later = filtered-in_order xs in
      filtered-insert_by x (in_order number xs)
      ∙ test_cases (p x) (length (filter p (x ∷ in_order number xs)) ≡ length (filter p (x ∷ xs))) (λ e. rw e (ap suc later)) (λ e. rw e later)

-- as many as a test picks in the slots it picks in the list
pub counted_told : {A B C : Type 0} (number : A → ℕ) (u : A → C) (v : B → C) (p : C → Bool) (slots : List (Option A)) (items : List B) → Tell number u v slots items
    → count_by (λ a. p (u a)) (used slots) ≡ count_by (λ b. p (v b)) items
counted_told {A = A} {B = B} number u v p slots items tell =
    sym (length-filter (λ (a : A). p (u a)) (used slots))
    ∙ sym (filtered-in_order number (λ (a : A). p (u a)) (used slots))
    ∙ length-alike u v (filter (λ (a : A). p (u a)) (listed number slots)) (filter (λ (b : B). p (v b)) items) (filter-alike u v p (listed number slots) items tell)
    ∙ length-filter (λ (b : B). p (v b)) items

-- ONE PLACE

module _ {A : Type 0} (f : A → A) where
  pub change_past : (i : ℕ) (xs : List A) → length xs ≤ i → change_at i f xs ≡ xs
  change_past i [] past = refl
  change_past zero (x ∷ xs) past = absurd (omega arith)
  change_past (suc i) (x ∷ xs) past = ap (λ ys. x ∷ ys) (change_past i xs (omega arith))

  pub change_found : (i : ℕ) (xs : List A) (x : A) → slice_get xs i ≡ Some x → set xs i (f x) ≡ change_at i f xs
  change_found i [] x found = absurd (cc)
  change_found zero (y ∷ ys) x found = let same : y ≡ x = cc in rw same refl
  change_found (suc i) (y ∷ ys) x found = ap (λ zs. y ∷ zs) (change_found i ys x found)

  pub length-change_at : (i : ℕ) (xs : List A) → length (change_at i f xs) ≡ length xs
  length-change_at i [] = refl
  length-change_at zero (x ∷ xs) = refl
  length-change_at (suc i) (x ∷ xs) = ap suc (length-change_at i xs)
