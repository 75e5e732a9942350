use Rattle.model_queue.proofs.Best.{best_some}
use Rattle.model_queue.proofs.picking.best_place.Goals as goal

pub returns-clause-some : goal.returns-clause-some
returns-clause-some g c =
    best_some (g.P.Ranks.rank c.args.test.now) (g.P.Picks.picks c.args.test.now) c.args.items.now c.first_place.result c.greatest-rank.result c.greatest-rank.ensures c.first_place.ensures.some
