-- Lists by the index of an item, as the code reads and writes them.
use Rattle.std.proofs.Common.{◌≡◌, ℕ, zero, suc, ◌≤◌, List, [], ◌∷◌, length, Some, slice_get, slice_set, refl, ap, arith}
use Rattle.mas_types.specs.Lists.{change_at}
use Rattle.member_core.specs.Worlds.{at_or}

module _ {A : Type 0} (d : A) where
  pub at_past : (i : ℕ) (xs : List A) → length xs ≤ i → at_or d i xs ≡ d
  at_past i [] h = refl
  at_past zero (x ∷ xs) h = let no : ⊥ = omega arith in absurd no
  at_past (suc i) (x ∷ xs) h = let past : length xs ≤ i = omega arith in at_past i xs past

  pub at_found : (i : ℕ) (xs : List A) (x : A) → slice_get xs i ≡ Some x → at_or d i xs ≡ x
  at_found i [] x h = absurd (cc)
  at_found zero (y ∷ xs) x h = cc
  at_found (suc i) (y ∷ xs) x h = at_found i xs x h

module _ {A : Type 0} (f : A → A) where
  pub change_past : (i : ℕ) (xs : List A) → length xs ≤ i → change_at i f xs ≡ xs
  change_past i [] h = refl
  change_past zero (x ∷ xs) h = let no : ⊥ = omega arith in absurd no
  change_past (suc i) (x ∷ xs) h = let past : length xs ≤ i = omega arith in ap (λ ys. x ∷ ys) (change_past i xs past)

  pub change_found : (i : ℕ) (xs : List A) (x : A) → slice_get xs i ≡ Some x → change_at i f xs ≡ slice_set xs i (f x)
  change_found i [] x h = absurd (cc)
  change_found zero (y ∷ xs) x h = let same : y ≡ x = cc in rw same refl
  change_found (suc i) (y ∷ xs) x h = ap (λ ys. y ∷ ys) (change_found i xs x h)

-- a write of what stands there
pub set_same : {A : Type 0} (i : ℕ) (xs : List A) (x : A) → slice_get xs i ≡ Some x → slice_set xs i x ≡ xs
set_same i [] x h = absurd (cc)
set_same zero (y ∷ xs) x h = let same : y ≡ x = cc in rw same refl
set_same (suc i) (y ∷ xs) x h = ap (λ ys. y ∷ ys) (set_same i xs x h)
