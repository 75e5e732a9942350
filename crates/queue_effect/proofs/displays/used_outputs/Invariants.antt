use Rattle.std.proofs.Common.{◌≡◌, take}
use Rattle.lay_bytes.specs.Used.{used}
use Rattle.queue_effect.proofs.displays.used_outputs.Given as goal

-- the outputs in the slots so far
abbrev pub invariant-loop-slot : goal.invariant-loop-slot
invariant-loop-slot l = l.outputs.items ≡ used (take l.slot-index l.slots)
