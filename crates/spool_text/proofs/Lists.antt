-- Lemmas on lists.
use Rattle.std.proofs.Common.{◌≡◌, ℕ, zero, suc, ◌+◌, ◌<◌, Bool, true, false, List, [], ◌∷◌, length, drop, get_or, refl, Some, slice_get, arith, add-one, drop-cons, subst}
use Rattle.std.specs.List.{All}
use Rattle.std.specs.Prelude.{unwrap_or}
use Rattle.std.proofs.lemmas.Option.{slice_get_within, get_or_from_slice_get}

-- cases on a test, with what it gave
pub test_cases : (b : Bool) (P : Type 0) → (b ≡ true → P) → (b ≡ false → P) → P
test_cases true P at_true at_false = at_true refl
test_cases false P at_true at_false = at_false refl

module _ {A : Type 0} where
  -- the items from a place on
  pub drop-at : (xs : List A) (i : ℕ) (x : A) → slice_get xs i ≡ Some x → drop i xs ≡ x ∷ drop (i + 1) xs
  drop-at xs i x h =
      let here : get_or xs i x ≡ x = get_or_from_slice_get xs i x x h in
      let within : i < length xs = slice_get_within xs i x h in
      rw (drop-cons xs i x within, here, add-one) refl

  -- what holds of all holds of the one at a place
  pub All-at : (P : A → Type 0) (xs : List A) (i : ℕ) (x : A) → All P xs → slice_get xs i ≡ Some x → P x
  All-at P xs i x all h =
      let here : get_or xs i x ≡ x = get_or_from_slice_get xs i x x h in
      subst P here (all i x (slice_get_within xs i x h))

  -- what holds of all holds of the first and of those behind it
  pub All-first : (P : A → Type 0) (x : A) (xs : List A) → All P (x ∷ xs) → P x × All P xs
  All-first P x xs all = (all 0 x (omega arith), λ i d within. all (suc i) d (omega (arith, within)))

-- the item at a place that is there
pub slice_get-within : {A : Type 0} (xs : List A) (i : ℕ) → i < length xs → (d : A) → slice_get xs i ≡ Some (unwrap_or (slice_get xs i) d)
slice_get-within [] i h d = absurd (omega arith)
slice_get-within (x ∷ xs) zero h d = refl
slice_get-within (x ∷ xs) (suc i) h d = slice_get-within xs i (omega arith) d

-- what is left begins with the item
pub drop_here : {A : Type 0} (xs : List A) (i : ℕ) → i < length xs → (d : A) → drop i xs ≡ get_or xs i d ∷ drop (i + 1) xs
drop_here xs i inside d = rw (drop-cons xs i d inside, add-one) refl
