use Rattle.std.proofs.Common.{◌≡◌, ◌≤◌, length, take}
use Rattle.lay_bytes.specs.Used.{used}
use Rattle.queue_slots.proofs.slots.used_count.Given as goal

-- how many of the slots so far
abbrev pub invariant-loop-slot : goal.invariant-loop-slot
invariant-loop-slot g l = (l.count ≡ length (used (take l.slot-index l.slots))) × (l.count ≤ l.slot-index)
