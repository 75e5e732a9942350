use Rattle.std.proofs.Common.{◌≡◌, None, replicate}
use Rattle.job_select.proofs.moving.empty_slots.Given as goal

-- the slots so far are as many empty ones as the loop has counted
abbrev pub invariant-loop-slot : goal.invariant-loop-slot
invariant-loop-slot g l = l.slots ≡ replicate l._slot None
