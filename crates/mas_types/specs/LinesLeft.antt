-- What lines are left of a text.
use Rattle.std.specs.Prelude.{ℕ, List}
use Rattle.mas_types.specs.declared.walks.LinesFrom.{LinesFrom}
use Rattle.mas_types.specs.LineBytes.{lines_in}

-- the lines that are left
abbrev pub left_in : LinesFrom → List (List ℕ)
left_in left = lines_in left.count left.bytes.now
