-- The first item that a test picks, by its place.
use Rattle.std.specs.Prelude.{◌≡◌, ℕ, ◌<◌, Bool, List, length, Some, find, slice_get, slice_set, remove}
use Rattle.mas_types.specs.Lists.{change_first, without_first}

-- at the place stands the first item that the test picks
pub record StandsAt {A : Type 0} (test : A → Bool) (items : List A) (at : ℕ) : Type 0 where
  pub item : A
  pub within : at < length items
  pub here : slice_get items at ≡ Some item
  pub found : find test items ≡ Some item
  pub changed : (f : A → A) → change_first test f items ≡ slice_set items at (f item)
  pub removed : without_first test items ≡ remove items at
