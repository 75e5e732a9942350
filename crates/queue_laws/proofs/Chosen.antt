-- Where the items are distinct, the one that a test finds is the one that is found by its key.
use Rattle.std.proofs.Common.{◌≡◌, Bool, true, false, List, [], ◌∷◌, Some, None, refl, ap}
use Rattle.std.specs.List.{find}
use Rattle.mas_types.specs.Lists.{change_first, without_first}
use Rattle.mas_types.specs.Fit.{AreDistinct}
use Rattle.queue_laws.proofs.Finds.{test_cases, find-All, any_none}

-- where no item is found, none is changed
pub change_first-none : {A : Type 0} (p : A → Bool) (f : A → A) (xs : List A) → find p xs ≡ None → change_first p f xs ≡ xs
change_first-none p f [] none = refl
change_first-none p f (y ∷ ys) none =
    test_cases (p y) (change_first p f (y ∷ ys) ≡ y ∷ ys)
    (λ e. absurd (let w = rw e at none in cc))
    (λ e. rw e (ap (λ zs. y ∷ zs) (change_first-none p f ys (rw e at none))))

module _ {A : Type 0} (same : A → A → Bool) (itself : (y : A) → same y y ≡ true) (p q : A → Bool) (x : A) (key : (y : A) → q y ≡ same y x) where
  -- the first item passes neither test, or is the one that is found
  not_before : (y : A) (ys : List A) → AreDistinct same (y ∷ ys) → find p ys ≡ Some x → q y ≡ false
  not_before y ys distinct found = rw (key y) (find-All (λ z. same y z ≡ false) p ys x (any_none (same y) ys distinct.0) found).0

  at_first : (y : A) → y ≡ x → q y ≡ true
  at_first y is = rw (key y, ← is) (itself y)

  pub change_first-chosen : (f : A → A) (xs : List A) → AreDistinct same xs → find p xs ≡ Some x → change_first p f xs ≡ change_first q f xs
  change_first-chosen f [] distinct found = refl
  change_first-chosen f (y ∷ ys) distinct found =
      test_cases (p y) (change_first p f (y ∷ ys) ≡ change_first q f (y ∷ ys))
      (λ e. let is : y ≡ x = (let w = rw e at found in cc) in rw (e, at_first y is) refl)
      (λ e. let later = rw e at found in rw (e, not_before y ys distinct later) (ap (λ zs. y ∷ zs) (change_first-chosen f ys distinct.1 later)))

  pub without_first-chosen : (xs : List A) → AreDistinct same xs → find p xs ≡ Some x → without_first p xs ≡ without_first q xs
  without_first-chosen [] distinct found = refl
  without_first-chosen (y ∷ ys) distinct found =
      test_cases (p y) (without_first p (y ∷ ys) ≡ without_first q (y ∷ ys))
      (λ e. let is : y ≡ x = (let w = rw e at found in cc) in rw (e, at_first y is) refl)
      (λ e. let later = rw e at found in rw (e, not_before y ys distinct later) (ap (λ zs. y ∷ zs) (without_first-chosen ys distinct.1 later)))
