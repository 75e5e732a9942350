use Rattle.std.proofs.Common.{◌≡◌, take}
use Rattle.brief_queue.proofs.queues.brief_outputs.Given as goal

-- the outputs so far
abbrev pub invariant-loop-output : goal.invariant-loop-output
invariant-loop-output l = l.brief ≡ take l.output-index l.outputs
