use Rattle.std.proofs.Common.{◌≡◌, ◌≤◌, ◌-◌, length, drop}
use Rattle.lay_bytes.specs.Bytes.{are_zeros}
use Rattle.lay_bytes.proofs.runs.is_zero.Given as goal

abbrev pub invariant-loop-at : goal.invariant-loop-at
invariant-loop-at l = (l.at ≤ length l.bytes) × (are_zeros (drop l.at l.bytes) ≡ are_zeros l.bytes)

abbrev pub decreases-loop-at : goal.decreases-loop-at
decreases-loop-at l = length l.bytes - l.at
