use Rattle.std.proofs.Common.{◌≤◌, All, take}
use Rattle.lay_bytes.specs.Limits.{copies_most}
use Rattle.queue_commands.proofs.giving.read_copies.Given as goal

-- the copies of the outputs read so far are within the range
abbrev pub invariant-loop-output : goal.invariant-loop-output
invariant-loop-output l = All (λ s. s.copies ≤ copies_most) (take l.output-index l.outputs)
