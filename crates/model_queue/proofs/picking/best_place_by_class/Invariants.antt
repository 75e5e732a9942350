use Rattle.std.proofs.Common.{◌≡◌, drop}
use Rattle.mas_types.specs.Lists.{has_first_key_of}
use Rattle.model_queue.proofs.picking.best_place_by_class.Given as goal

-- no item that is picked has one of the classes so far
abbrev pub invariant-loop-class : goal.invariant-loop-class
invariant-loop-class g l =
    has_first_key_of (g.P.Classed.has_class l.test) l.class-items (g.P.Picks.picks l.test) l.items
    ≡ has_first_key_of (g.P.Classed.has_class l.test) (drop l.class-index l.class-items) (g.P.Picks.picks l.test) l.items
