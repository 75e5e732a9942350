use Rattle.std.proofs.Common.{take}
use Rattle.queue_laws.proofs.fitness.are_lines.Given as goal
use Rattle.mas_types.specs.Fit.{AreLines}

-- the lines so far are text
abbrev pub invariant-loop-at : goal.invariant-loop-at
invariant-loop-at l = AreLines (take l.at l.text)
