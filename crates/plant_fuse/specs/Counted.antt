-- Counts of members.
use Rattle.std.specs.Prelude.{ℕ, List, slice_index, slice_set}
use Rattle.spool_plant.specs.Acts.{next}

-- the counts, where one more act of a member is counted
abbrev pub counted : List ℕ → ℕ → List ℕ
counted counts member = slice_set counts member (next (slice_index counts member))
