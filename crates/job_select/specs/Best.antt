-- The best of the slots in a chain.
use Rattle.std.specs.Prelude.{◌≡◌, ℕ, ◌==◌, ◌≤◌, nat_lt, Bool, true, false, ◌&&◌, ◌||◌, if◌then◌else◌, List, Option, Some, None, slice_get}
use Rattle.queue_slots.specs.declared.slots.Found.{Found}
use Rattle.job_select.specs.Chains.{has_slot}

module _ {X : Type 0} (number rank : X → ℕ) where
  -- the first goes before the second: it has a greater rank, then a lesser number, then a lower slot
  abbrev pub is_before : Found X → Found X → Bool
  is_before a b =
      nat_lt (rank b.item) (rank a.item)
      || ((rank a.item == rank b.item) &&
      (nat_lt (number a.item) (number b.item) || ((number a.item == number b.item) && nat_lt a.at b.at)))

  module _ (picks : X → Bool) where
    -- what stands in a slot is picked
    abbrev pub picks_slot : Option (Option X) → Bool
    picks_slot None = false
    picks_slot (Some None) = false
    picks_slot (Some (Some x)) = picks x

    -- the best so far, where one more was found
    abbrev pub better : Option (Found X) → Found X → Option (Found X)
    better None next = if picks next.item then Some next else None
    better (Some best) next = if picks next.item then (if is_before next best then Some next else Some best) else Some
        best

    -- the best so far, where one more slot was seen
    abbrev pub better_slot : Option (Found X) → ℕ → Option (Option X) → Option (Found X)
    better_slot best at None = best
    better_slot best at (Some None) = best
    better_slot best at (Some (Some x)) = better best (record { at = at; item = x })

    -- the item in the slot does not go before the best one
    pub record Leads (best : Found X) (j : ℕ) (y : X) : Type 0 where
      pub by_rank : rank y ≤ rank best.item
      pub by_number : rank y ≡ rank best.item → number best.item ≤ number y
      pub by_slot : rank y ≡ rank best.item → number y ≡ number best.item → best.at ≤ j

    -- the best of the chain is picked, and none that is picked and stands in the chain goes before it
    pub record IsBest (slots : List (Option X)) (chain : List ℕ) (best : Found X) : Type 0 where
      pub here : slice_get slots best.at ≡ Some (Some best.item)
      pub picked : picks best.item ≡ true
      pub leads : (j : ℕ) (y : X) → has_slot j chain ≡ true → slice_get slots j ≡ Some (Some y) → picks y ≡ true
          → Leads best j y

    abbrev pub NonePicked : List (Option X) → List ℕ → Type 0
    NonePicked slots chain = (j : ℕ) (y : X) → has_slot j chain ≡ true → slice_get slots j ≡ Some (Some y)
        → picks y ≡ false

    abbrev pub IsBestIn : List (Option X) → List ℕ → Option (Found X) → Type 0
    IsBestIn slots chain None = NonePicked slots chain
    IsBestIn slots chain (Some best) = IsBest slots chain best
