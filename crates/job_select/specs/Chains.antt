-- Chains of slots: each record stands in at most one chain of a kind, by its number.
use Rattle.std.specs.Prelude.{◌≡◌, ℕ, ◌==◌, nat_eq, Bool, false, not, ◌&&◌, ◌||◌, List, [], Option, Some, None, slice_get}
use Rattle.std.specs.Option.{option_map_or}
use Rattle.std.specs.List.{list_any}
use Rattle.std.specs.declared.vec.Vec.{Vec}
use Rattle.indexmap.specs.IndexMap.{IndexMap, get}

-- the slot is one of these slots
abbrev pub has_slot : ℕ → List ℕ → Bool
has_slot i slots = list_any (λ j. j == i) slots

-- there is a chain, and it has this number
abbrev pub is_chain : ℕ → Option ℕ → Bool
is_chain k None = false
is_chain k (Some l) = l == k

module _ {S Z : Type 0} where
  -- the slots in a chain
  abbrev pub slots_of : IndexMap ℕ (Vec ℕ Z) S → ℕ → List ℕ
  slots_of chains k = option_map_or (λ v. v.items) (get nat_eq chains k) []

  -- each chain has the slots that it had
  abbrev pub HaveSame : IndexMap ℕ (Vec ℕ Z) S → IndexMap ℕ (Vec ℕ Z) S → Type 0
  HaveSame old new = (k i : ℕ) → has_slot i (slots_of new k) ≡ has_slot i (slots_of old k)

  -- the slot joined the chain, if there is one
  abbrev pub Joins : IndexMap ℕ (Vec ℕ Z) S → IndexMap ℕ (Vec ℕ Z) S → ℕ → Option ℕ → Type 0
  Joins old new slot to =
      (k i : ℕ) → has_slot i (slots_of new k) ≡ (has_slot i (slots_of old k) || (is_chain k to && (i == slot)))

  -- the slot left the chain, if there is one
  abbrev pub Leaves : IndexMap ℕ (Vec ℕ Z) S → IndexMap ℕ (Vec ℕ Z) S → ℕ → Option ℕ → Type 0
  Leaves old new slot from =
      (k i : ℕ) → has_slot i (slots_of new k) ≡ (has_slot i (slots_of old k) && not (is_chain k from && (i == slot)))

  -- the slot left the chain, if there is one, for another
  abbrev pub LeavesFor : IndexMap ℕ (Vec ℕ Z) S → IndexMap ℕ (Vec ℕ Z) S → ℕ → Option ℕ → Option ℕ → Type 0
  LeavesFor old new slot from to = (k i : ℕ) → has_slot i (slots_of new k)
      ≡ (has_slot i (slots_of old k) && not ((is_chain k from && not (is_chain k to)) && (i == slot)))

  -- the slot left the one chain, if there is one, and joined the other
  abbrev pub Moves : IndexMap ℕ (Vec ℕ Z) S → IndexMap ℕ (Vec ℕ Z) S → ℕ → Option ℕ → Option ℕ → Type 0
  Moves old new slot from to = (k i : ℕ) → has_slot i (slots_of new k)
      ≡ ((has_slot i (slots_of old k) && not (is_chain k from && (i == slot))) || (is_chain k to && (i == slot)))

  -- the slot stands in that chain alone, if there is one
  abbrev pub StandsIn : IndexMap ℕ (Vec ℕ Z) S → ℕ → Option ℕ → Type 0
  StandsIn chains slot chain = (k : ℕ) → has_slot slot (slots_of chains k) ≡ is_chain k chain

module _ {X : Type 0} (chain_of : X → Option ℕ) where
  -- the chain of what stands in a slot
  abbrev pub chain_at : Option X → Option ℕ
  chain_at None = None
  chain_at (Some x) = chain_of x

  abbrev pub stands_in : ℕ → Option (Option X) → Bool
  stands_in k None = false
  stands_in k (Some slot) = is_chain k (chain_at slot)

  -- in each chain stand the slots of just those records of which it is the chain
  abbrev pub AreChains : {S Z : Type 0} → List (Option X) → IndexMap ℕ (Vec ℕ Z) S → Type 0
  AreChains slots chains = (k i : ℕ) → has_slot i (slots_of chains k) ≡ stands_in k (slice_get slots i)
