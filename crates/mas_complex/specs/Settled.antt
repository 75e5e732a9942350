-- What a shared value keeps of its batches without truncation has at most one proof.
use Rattle.mas_complex.specs.Names.{Batch}
use Rattle.std.specs.Prelude.{ℕ, List, [], ◌∷◌, Option, Some, None}
use Rattle.std.specs.Coded.{Coded-set, ×_prop, Unit-prop, le_prop}
use mathlib.Core.Bool.{Bool-set}
use Rattle.mas_types.specs.contracts.journals.Fate.{the_row}
use Rattle.mas_complex.specs.Journals.{AreSettled, IsBegun}

pub settled_prop : (batches : List Batch) (now : ℕ) → IsProp (AreSettled batches now)
settled_prop [] now = Unit-prop
settled_prop (b ∷ bs) now =
    λ p q i. (Bool-set _ _ p.0 q.0 i, le_prop p.1 q.1 i, le_prop p.2 q.2 i, settled_prop bs now p.3 q.3 i)

pub begun_prop : (current : Option Batch) (now : ℕ) → IsProp (IsBegun current now)
begun_prop None now = Unit-prop
begun_prop (Some b) now = ×_prop (Coded-set the_row.coded _ _) le_prop
