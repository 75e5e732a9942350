use Rattle.queue_slots.specs.Best.{IsWalked}
use Rattle.queue_slots.proofs.walking.walk.Given as goal

-- the best of the slots so far
abbrev pub invariant-loop-at : goal.invariant-loop-at
invariant-loop-at g l = IsWalked g.T.Ordered.order (g.P.Weigh.key l.test) (g.P.Weigh.rank l.test) (g.P.Weigh.weighs l.test) l.slots l.at l.best
