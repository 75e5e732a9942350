-- Lists in ascending number, and what stands in slots.
use Rattle.std.proofs.Common.{◌≡◌, ℕ, ◌+◌, ◌<◌, List, [], ◌∷◌, ◌++◌, length, take, get_or, Option, Some, None, refl, ap}
use Rattle.std.proofs.lemmas.List.{take_more}
use Rattle.lay_bytes.specs.Used.{used}

-- one more slot
used_last : {X : Type 0} (xs : List (Option X)) (s : Option X) → used (xs ++ s ∷ []) ≡ used xs ++ used (s ∷ [])
used_last [] s = refl
used_last (None ∷ xs) s = used_last xs s
used_last (Some x ∷ xs) s = ap (λ zs. x ∷ zs) (used_last xs s)

used_end : {X : Type 0} (xs : List (Option X)) → used (xs ++ None ∷ []) ≡ used xs
used_end [] = refl
used_end (None ∷ xs) = used_end xs
used_end (Some x ∷ xs) = ap (λ zs. x ∷ zs) (used_end xs)

pub used_with : {X : Type 0} (xs : List (Option X)) (i : ℕ) (x : X) → i < length xs → get_or xs i (Some x) ≡ Some x → used (take (i + 1) xs) ≡ used (take i xs) ++ x ∷ []
used_with xs i x inside is = rw (take_more xs i (Some x) inside, is) (used_last (take i xs) (Some x))

pub used_without : {X : Type 0} (xs : List (Option X)) (i : ℕ) → i < length xs → get_or xs i None ≡ None → used (take (i + 1) xs) ≡ used (take i xs)
used_without xs i inside is = rw (take_more xs i None inside, is) (used_end (take i xs))
