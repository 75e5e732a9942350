use Rattle.model_queue.proofs.Best.{greatest_more}
use Rattle.model_queue.proofs.picking.greatest.Goals as goal

pub loop-item-preserved : goal.loop-item-preserved
loop-item-preserved g c =
    rw c.greater-most.ensures
    (greatest_more (g.P.Ranks.rank c.args.test.now) (g.P.Picks.picks c.args.test.now) c.as_slice-item-items.result.now c.loop-item.item-index c.item-item.result c.loop-item.most _ c.loop-item-test.true c.item-item.is c.loop-item.invariant)
