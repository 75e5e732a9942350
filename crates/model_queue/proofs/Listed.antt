-- Lists without the items that a test picks, and tests over lists.
use Rattle.std.proofs.Common.{◌≡◌, ℕ, zero, suc, ◌≤◌, Bool, ◌&&◌, ◌||◌, List, [], ◌∷◌, length, Some, None, slice_get, slice_set, refl, ap, arith}
use Rattle.std.specs.List.{find, filter, list_any}
use Rattle.mas_types.specs.Lists.{change_at, without, without_first}
use Rattle.queue_laws.proofs.Finds.{test_cases}

module _ {A : Type 0} (p : A → Bool) where
  -- the first that is picked taken away, the others go as before
  pub without-first : (xs : List A) → without p (without_first p xs) ≡ without p xs
  without-first [] = refl
  without-first (x ∷ xs) =
      test_cases (p x) (without p (without_first p (x ∷ xs)) ≡ without p (x ∷ xs))
      (λ e. rw e refl)
      (λ e. rw (e, e) (ap (λ ys. x ∷ ys) (without-first xs)))

  -- where none is picked, none goes
  pub without-none : (xs : List A) → find p xs ≡ None → without p xs ≡ xs
  without-none [] h = refl
  without-none (x ∷ xs) h =
      test_cases (p x) (without p (x ∷ xs) ≡ x ∷ xs)
      (λ e. absurd (let w = rw e at h in cc))
      (λ e. rw e (ap (λ ys. x ∷ ys) (without-none xs (rw e at h))))

  -- a test of those that another one keeps
  pub any-filter : (q : A → Bool) (xs : List A) → list_any p (filter q xs) ≡ list_any (λ x. q x && p x) xs
  any-filter q [] = refl
  any-filter q (x ∷ xs) =
      test_cases (q x) (list_any p (filter q (x ∷ xs)) ≡ list_any (λ x. q x && p x) (x ∷ xs))
      (λ e. rw e (ap (λ b. p x || b) (any-filter q xs)))
      (λ e. rw e (any-filter q xs))

module _ {A : Type 0} (f : A → A) where
  pub change_past : (i : ℕ) (xs : List A) → length xs ≤ i → change_at i f xs ≡ xs
  change_past i [] h = refl
  change_past zero (x ∷ xs) h = let no : ⊥ = omega arith in absurd no
  change_past (suc i) (x ∷ xs) h = let past : length xs ≤ i = omega arith in ap (λ ys. x ∷ ys) (change_past i xs past)

  pub change_found : (i : ℕ) (xs : List A) (x : A) → slice_get xs i ≡ Some x → change_at i f xs ≡ slice_set xs i (f x)
  change_found i [] x h = absurd (cc)
  change_found zero (y ∷ xs) x h = let same : y ≡ x = cc in rw same refl
  change_found (suc i) (y ∷ xs) x h = ap (λ ys. y ∷ ys) (change_found i xs x h)
