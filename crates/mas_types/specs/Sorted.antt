-- Lists in ascending number.
use Rattle.std.specs.Prelude.{ℕ, nat_le, if◌then◌else◌, List, [], ◌∷◌}

-- the list with the item put in before the first item with no lesser number
abbrev pub insert_by : {X : Type 0} → (X → ℕ) → X → List X → List X
insert_by number x [] = x ∷ []
insert_by number x (y ∷ ys) = if nat_le (number x) (number y) then x ∷ y ∷ ys else y ∷ insert_by number x ys

-- the items in ascending number; those of one number stay in their order
abbrev pub in_order : {X : Type 0} → (X → ℕ) → List X → List X
in_order number [] = []
in_order number (x ∷ xs) = insert_by number x (in_order number xs)
