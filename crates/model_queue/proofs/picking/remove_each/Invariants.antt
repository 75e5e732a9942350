use Rattle.std.proofs.Common.{◌≡◌, length}
use Rattle.mas_types.specs.Lists.{without}
use Rattle.model_queue.proofs.picking.remove_each.Given as goal

-- what is left without those that are picked
abbrev pub invariant-loop-at : goal.invariant-loop-at
invariant-loop-at g l = without (g.P.Picks.picks l.test) l.items ≡ without (g.P.Picks.picks l.test) l.fn.items

abbrev pub decreases-loop-at : goal.decreases-loop-at
decreases-loop-at g l = length l.items
