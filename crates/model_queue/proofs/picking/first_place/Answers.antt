use Rattle.model_queue.proofs.Places.{placed, not_placed}
use Rattle.model_queue.proofs.picking.first_place.Goals as goal

pub returns-clause-some : goal.returns-clause-some
returns-clause-some g c = placed (g.P.Picks.picks c.args.test.now) c.args.items.now c.position_of.result c.position_of.ensures

pub returns-clause-none : goal.returns-clause-none
returns-clause-none g c = not_placed (g.P.Picks.picks c.args.test.now) c.args.items.now c.position_of.result c.position_of.ensures
