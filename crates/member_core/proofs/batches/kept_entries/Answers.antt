use Rattle.member_core.proofs.Loops.{kept_more}
use Rattle.member_core.proofs.batches.kept_entries.Goals as goal

pub loop-batch-preserved : goal.loop-batch-preserved
loop-batch-preserved c =
    rw c.in_ok-add_kept.ensures (kept_more c.as_slice-batch-items.result.now c.loop-batch.batch-index c.batch-item.result c.loop-batch.all _ c.loop-batch-test.true c.batch-item.is c.loop-batch.invariant)
