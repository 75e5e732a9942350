use Rattle.std.proofs.Common.{take}
use Rattle.job_select.specs.Best.{IsBestIn}
use Rattle.job_select.proofs.choices.walk.Given as goal

-- the best of the chain so far
abbrev pub invariant-loop-at : goal.invariant-loop-at
invariant-loop-at g l = IsBestIn g.T.Ordered.order (g.C.Choice.rank l.choice) (g.C.Choice.picks l.choice) l.slots (take l.at-index l.chain) l.best
