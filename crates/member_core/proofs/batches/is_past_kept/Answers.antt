use Rattle.member_core.proofs.Loops.{past_kept_more}
use Rattle.member_core.proofs.batches.is_past_kept.Goals as goal

pub loop-batch-preserved : goal.loop-batch-preserved
loop-batch-preserved c = past_kept_more c.as_slice-batch-items.result.now c.loop-batch.batch-index c.batch-item.result c.loop-batch.room c.kept_fewer-room.result c.loop-batch-test.true c.batch-item.is c.kept_fewer-room.ensures _ c.loop-batch.invariant
