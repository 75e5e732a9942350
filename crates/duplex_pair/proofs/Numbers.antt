-- The first of a list of numbers.
use Rattle.std.proofs.Common.{◌≡◌, ℕ, ◌<◌, zero, suc, List, [], ◌∷◌, length, take, Some, slice_index_or, arith}
use Rattle.std.specs.Prelude.{slice_get}

pub taken : (xs : List ℕ) (n p x : ℕ) → p < n → slice_get xs p ≡ Some x → (p < length (take n xs)) × (slice_index_or (take n xs) p x ≡ x)
taken [] n p x lt e = absurd (cc)
taken (y ∷ ys) zero p x lt e = absurd (omega arith)
taken (y ∷ ys) (suc n) zero x lt e = (omega arith, cc)
taken (y ∷ ys) (suc n) (suc p) x lt e = let r = taken ys n p x (omega arith) e in (omega (arith, r.0), r.1)
