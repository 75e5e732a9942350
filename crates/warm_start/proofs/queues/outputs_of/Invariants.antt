use Rattle.std.proofs.Common.{◌≡◌, take, map}
use Rattle.ckpt_pages.specs.QueueOf.{output_with}
use Rattle.warm_start.specs.Bare.{bare_print}
use Rattle.warm_start.proofs.queues.outputs_of.Given as goal

abbrev pub invariant-loop-record : goal.invariant-loop-record
invariant-loop-record l = l.outputs ≡ map (output_with bare_print) (take l.record-index l.record-items)
