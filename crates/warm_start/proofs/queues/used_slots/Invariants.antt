use Rattle.std.proofs.Common.{◌≡◌, take}
use Rattle.lay_bytes.specs.Used.{used}
use Rattle.warm_start.proofs.queues.used_slots.Given as goal

abbrev pub invariant-loop-slot : goal.invariant-loop-slot
invariant-loop-slot g l = l.records.items ≡ used (take l.slot-index l.slots)
