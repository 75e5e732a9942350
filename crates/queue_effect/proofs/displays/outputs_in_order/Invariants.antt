use Rattle.std.proofs.Common.{◌≡◌, map, take}
use Rattle.queue_effect.specs.Gone.{output_of}
use Rattle.queue_effect.proofs.displays.outputs_in_order.Given as goal

-- the outputs of the items so far
abbrev pub invariant-loop-output : goal.invariant-loop-output
invariant-loop-output l = l.outputs ≡ map output_of (take l.output-index l.output-items)
