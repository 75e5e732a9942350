use Rattle.std.proofs.Common.{◌≡◌, ◌++◌, take, drop, map}
use Rattle.member_core.proofs.Loops.{given_fate}
use Rattle.member_core.proofs.batches.settle.Given as goal

-- the batches so far have their fate
abbrev pub invariant-loop-batch : goal.invariant-loop-batch
invariant-loop-batch l = take l.batch-index l.batches ++ map (given_fate l.fate) (drop l.batch-index l.batches) ≡ map (given_fate l.fate) l.fn.batches
