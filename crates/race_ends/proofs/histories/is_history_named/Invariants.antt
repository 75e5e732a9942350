use Rattle.std.proofs.Common.{take}
use Rattle.std.specs.Prelude.{All}
use Rattle.cmd_report.specs.Named.{IsEntryNamed}
use Rattle.race_ends.proofs.histories.is_history_named.Given as goal

-- those of all batches so far have names
abbrev pub invariant-loop-batch : goal.invariant-loop-batch
invariant-loop-batch l = All (λ b. All IsEntryNamed b.entries) (take l.batch-index l.journal.batches)
