use Rattle.std.proofs.Common.{◌≡◌, take}
use Rattle.lay_bytes.specs.Used.{used}
use Rattle.queue_effect.proofs.displays.used_jobs.Given as goal

-- the jobs in the slots so far
abbrev pub invariant-loop-slot : goal.invariant-loop-slot
invariant-loop-slot l = l.jobs.items ≡ used (take l.slot-index l.slots)
