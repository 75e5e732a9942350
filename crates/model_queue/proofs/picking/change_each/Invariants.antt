use Rattle.std.proofs.Common.{◌≡◌, ◌++◌, take, drop}
use Rattle.mas_types.specs.Lists.{change}
use Rattle.model_queue.proofs.picking.change_each.Given as goal

-- the items so far are changed
abbrev pub invariant-loop-item : goal.invariant-loop-item
invariant-loop-item g l =
    take l.item-index l.items ++ change (g.P.Picks.picks l.test) (g.F.Changes.changed l.change) (drop l.item-index l.items)
    ≡ change (g.P.Picks.picks l.test) (g.F.Changes.changed l.change) l.fn.items
