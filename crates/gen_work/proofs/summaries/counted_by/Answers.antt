use Rattle.gen_work.specs.Summaries.{counted_in, kept_in}
use Rattle.gen_work.proofs.Sums.{batches_more}
use Rattle.gen_work.proofs.summaries.counted_by.Goals as goal

pub loop-batch-preserved : goal.loop-batch-preserved
loop-batch-preserved c =
    batches_more c.args.batches.now c.loop-batch.batch-index c.batch-item.result c.loop-batch.counted c.push_batch.new.counted (counted_in (kept_in c.args.batches.now)) c.loop-batch-test.true c.batch-item.is c.in_ok-push_batch.ensures c.loop-batch.invariant
