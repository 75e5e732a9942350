use Rattle.std.proofs.Common.{sym}
use Rattle.model_queue.proofs.Places.{change_nothing, nothing}
use Rattle.model_queue.proofs.picking.change_first.Goals as goal

pub returns-in_default : goal.returns-in_default
returns-in_default g c =
    sym (change_nothing (g.P.Picks.picks c.args.test.now) (g.F.Changes.changed c.args.change.now) c.args.items.now (nothing c.first_place.result c.in_default.is c.first_place.ensures.none))
