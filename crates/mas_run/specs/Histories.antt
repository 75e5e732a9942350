-- The journal of a run line by line, and the history that it is.
use Rattle.mas_run.specs.Names.{Batch, Batched}
use Rattle.run_turns.specs.Scenes.{with_fate}
use Rattle.std.specs.Prelude.{◌≡◌, List, map}

-- THE HISTORY, batch by batch: its entries and its fate

abbrev pub as_history : List Batch → List Batched
as_history bs = map (λ b. with_fate b.fate b.entries) bs

abbrev pub AreHistory : List Batched → List Batch → Type 0
AreHistory xs bs = as_history bs ≡ xs
