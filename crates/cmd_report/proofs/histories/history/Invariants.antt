use Rattle.std.proofs.Common.{◌≡◌, take}
use Rattle.mas_types.specs.Histories.{history_lines}
use Rattle.cmd_report.proofs.Pieces.{kept_of}
use Rattle.cmd_report.proofs.histories.history.Given as goal

-- the lines of the batches so far
abbrev pub invariant-loop-batch : goal.invariant-loop-batch
invariant-loop-batch l = l.lines ≡ history_lines 1 (kept_of (take l.batch-index l.journal.batches))
