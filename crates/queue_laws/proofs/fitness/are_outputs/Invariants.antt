use Rattle.std.proofs.Common.{All, take}
use Rattle.mas_types.specs.Fit.{IsOutSpec}
use Rattle.queue_laws.proofs.fitness.are_outputs.Given as goal

-- the outputs so far are within the limits
abbrev pub invariant-loop-spec : goal.invariant-loop-spec
invariant-loop-spec l = All IsOutSpec (take l.spec-index l.specs)
