-- Slots, and the list of what stands in them.
use Rattle.std.specs.Prelude.{◌≡◌, ℕ, Bool, List, Option, Some, None, find, slice_get, slice_set}
use Rattle.mas_types.specs.Lists.{change_first, without_first}
use Rattle.lay_bytes.specs.Used.{used}
use Rattle.mas_types.specs.Sorted.{in_order}

-- what stands in the slots, in ascending number
abbrev pub listed : {X : Type 0} → (X → ℕ) → List (Option X) → List X
listed number slots = in_order number (used slots)

-- in a slot stands the first of the list that the test picks: another of its number in its place stands there in the
-- list, and without it the list lacks it
pub record StandsFirst {X : Type 0} (number : X → ℕ) (test : X → Bool) (slots : List (Option X)) (at : ℕ) (x : X) : Type
    0 where
  pub here : slice_get slots at ≡ Some (Some x)
  pub first : find test (listed number slots) ≡ Some x
  pub changed : (y : X) → number y ≡ number x
      → listed number (slice_set slots at (Some y)) ≡ change_first test (λ z. y) (listed number slots)
  pub removed : listed number (slice_set slots at None) ≡ without_first test (listed number slots)
