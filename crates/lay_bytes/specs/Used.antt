-- Slots that are used.
use Rattle.std.specs.Prelude.{List, [], ◌∷◌, Option, Some, None}

-- what stands in the slots that aren't free
abbrev pub used : {X : Type 0} → List (Option X) → List X
used [] = []
used (None ∷ slots) = used slots
used (Some x ∷ slots) = x ∷ used slots
