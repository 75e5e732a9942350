use Rattle.member_core.proofs.Loops.{flying_more}
use Rattle.member_core.proofs.batches.add_each_flying.Goals as goal

pub loop-batch-preserved : goal.loop-batch-preserved
loop-batch-preserved c =
    rw c.in_ok-add_flying.ensures (flying_more c.as_slice-batch-items.result.now c.loop-batch.batch-index c.batch-item.result c.loop-batch.all _ c.loop-batch-test.true c.batch-item.is c.loop-batch.invariant)
