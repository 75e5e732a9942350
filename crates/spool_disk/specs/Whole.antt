-- The lines that stand whole.
use Rattle.std.specs.Prelude.{ℕ, List, map, filter}
use Rattle.spool_plant.specs.View.{Line}

abbrev pub whole_lines : List Line → List (List ℕ)
whole_lines lines = map (λ l. l.text) (filter (λ l. l.whole) lines)
