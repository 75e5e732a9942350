-- What slots tell of a list: of each item in order what both can show.
use Rattle.std.specs.Prelude.{◌≡◌, ℕ, Bool, List, Option, Some, None, find, map, slice_get, slice_set}
use Rattle.mas_types.specs.Lists.{change_first, without_first}
use Rattle.queue_slots.specs.Listed.{listed}

module _ {A B C : Type 0} (number : A → ℕ) (shown : A → C) (shows : B → C) where
  -- the records in order show what the items do
  abbrev pub Tell : List (Option A) → List B → Type 0
  Tell slots items = map shown (listed number slots) ≡ map shows items

  -- in a slot stands what is told of the first item that the test picks: another of its number in its place tells of
  -- another item there, and without it nothing is told of the item
  pub record TellsFirst (test : B → Bool) (slots : List (Option A)) (items : List B) (at : ℕ) (x : A) : Type 0 where
    pub item : B
    pub found : find test items ≡ Some item
    pub is : shows item ≡ shown x
    pub here : slice_get slots at ≡ Some (Some x)
    pub changed : (y : A) (f : B → B) → number y ≡ number x → shown y ≡ shows (f item)
        → Tell (slice_set slots at (Some y)) (change_first test f items)
    pub removed : Tell (slice_set slots at None) (without_first test items)
