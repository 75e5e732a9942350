use Rattle.std.proofs.Common.{take}
use Rattle.job_select.specs.Best.{NonePicked}
use Rattle.job_select.proofs.choices.any_in.Given as goal

-- none of the chain's slots seen so far is picked
abbrev pub invariant-loop-at : goal.invariant-loop-at
invariant-loop-at g l = NonePicked g.T.Ordered.order (g.C.Choice.rank l.choice) (g.C.Choice.picks l.choice) l.slots (take l.at-index l.chain)
