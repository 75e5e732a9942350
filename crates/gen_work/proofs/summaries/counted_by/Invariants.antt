use Rattle.std.proofs.Common.{◌≡◌, ◌++◌, drop}
use Rattle.gen_work.specs.Summaries.{counted_in, kept_in}
use Rattle.gen_work.proofs.summaries.counted_by.Given as goal

-- what is left is added
abbrev pub invariant-loop-batch : goal.invariant-loop-batch
invariant-loop-batch l = l.counted ++ counted_in (kept_in (drop l.batch-index l.batches)) ≡ counted_in (kept_in l.batches)
