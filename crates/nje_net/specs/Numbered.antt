-- Lists whose items are numbered from 1: nodes, lines, jobs, frames and acknowledgements.
use Rattle.std.specs.Prelude.{ℕ, zero, suc, ◌+◌, Bool, true, not, ◌&&◌, List, [], ◌∷◌, Option, None, slice_get}
use Rattle.std.specs.List.{list_all, list_any, enumerate_from}
use Rattle.mas_types.specs.declared.ids.Name8.{Name8}
use Rattle.mas_types.specs.Ids.{same_name}
use Rattle.mas_types.specs.Lists.{change_at}

module _ {A : Type 0} where
  -- the item at a place counted from 0, or the one given where there is none
  abbrev pub at_or : A → ℕ → List A → A
  at_or d i [] = d
  at_or d zero (x ∷ xs) = x
  at_or d (suc i) (x ∷ xs) = at_or d i xs

  -- the item of a number, or the one given where there is none
  abbrev pub item : A → ℕ → List A → A
  item d zero xs = d
  item d (suc i) xs = at_or d i xs

  -- the item of a number
  abbrev pub numbered : ℕ → List A → Option A
  numbered zero xs = None
  numbered (suc i) xs = slice_get xs i

  -- the items, where the one of a number is changed
  abbrev pub change_item : ℕ → (A → A) → List A → List A
  change_item zero f xs = xs
  change_item (suc i) f xs = change_at i f xs

  -- each item passes the test with its number
  abbrev pub all_numbered : (ℕ → A → Bool) → List A → Bool
  all_numbered test xs = list_all (λ p. test (p.0 + 1) p.1) (enumerate_from 0 xs)

  -- no two items have the same name
  abbrev pub are_different : (A → Name8) → List A → Bool
  are_different name [] = true
  are_different name (x ∷ xs) = not (list_any (λ y. same_name (name y) (name x)) xs) && are_different name xs
