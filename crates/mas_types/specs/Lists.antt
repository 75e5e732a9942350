-- Lists: the words that the definitions of the queue are made of.
use Rattle.std.specs.Prelude.{ℕ, zero, suc, ◌==◌, Bool, false, not, ◌&&◌, max, if◌then◌else◌, List, [], ◌∷◌, Option, Some, None, map, filter}
use Rattle.std.specs.List.{list_any}

module _ {A : Type 0} where
  -- the items, where each that the test picks is changed
  abbrev pub change : (A → Bool) → (A → A) → List A → List A
  change test f xs = map (λ x. if test x then f x else x) xs

  -- the items, where the first that the test picks is changed
  abbrev pub change_first : (A → Bool) → (A → A) → List A → List A
  change_first test f [] = []
  change_first test f (x ∷ xs) = if test x then f x ∷ xs else x ∷ change_first test f xs

  -- the items without the first that the test picks
  abbrev pub without_first : (A → Bool) → List A → List A
  without_first test [] = []
  without_first test (x ∷ xs) = if test x then xs else x ∷ without_first test xs

  -- the items without those that the test picks
  abbrev pub without : (A → Bool) → List A → List A
  without test xs = filter (λ x. not (test x)) xs

  -- the first item
  abbrev pub head : List A → Option A
  head [] = None
  head (x ∷ xs) = Some x

  -- the items after the first
  abbrev pub tail : List A → List A
  tail [] = []
  tail (x ∷ xs) = xs

  -- the greatest number that an item has, 0 where there is no item
  abbrev pub greatest : (A → ℕ) → List A → ℕ
  greatest number [] = 0
  greatest number (x ∷ xs) = max (number x) (greatest number xs)

  -- the item is one that the test picks, and none of those has a greater number
  abbrev pub is_greatest_of : (A → ℕ) → (A → Bool) → List A → A → Bool
  is_greatest_of number test xs x = test x && (number x == greatest number (filter test xs))

  -- the item is one that the test picks, and it has the first key, in the order of the keys, that any of those has
  abbrev pub has_first_key_of : {K : Type 0} → (K → A → Bool) → List K → (A → Bool) → List A → A → Bool
  has_first_key_of has [] test xs x = false
  has_first_key_of has (k ∷ ks) test xs x =
      if list_any (λ y. test y && has k y) xs then test x && has k x else has_first_key_of has ks test xs x

  -- the items, where the one at a place counted from 0 is changed
  abbrev pub change_at : ℕ → (A → A) → List A → List A
  change_at k f [] = []
  change_at zero f (x ∷ xs) = f x ∷ xs
  change_at (suc k) f (x ∷ xs) = x ∷ change_at k f xs

-- the first of the choices that is one
abbrev pub first_some : {A : Type 0} → List (Option A) → Option A
first_some [] = None
first_some (None ∷ choices) = first_some choices
first_some (Some x ∷ choices) = Some x
