use Rattle.std.proofs.Common.{◌≡◌, max, drop}
use Rattle.std.specs.List.{filter}
use Rattle.mas_types.specs.Lists.{greatest}
use Rattle.model_queue.proofs.picking.greatest.Given as goal

-- the greatest rank so far, and those that are left
abbrev pub invariant-loop-item : goal.invariant-loop-item
invariant-loop-item g l =
    max l.most (greatest (g.P.Ranks.rank l.test) (filter (g.P.Picks.picks l.test) (drop l.item-index l.item-items)))
    ≡ greatest (g.P.Ranks.rank l.test) (filter (g.P.Picks.picks l.test) l.item-items)
