use Rattle.gen_work.specs.declared.summaries.Counted.TheVariants as counted
use Rattle.gen_work.specs.Summaries.{mark_after}
use Rattle.gen_work.proofs.Sums.{mark_more}
use Rattle.gen_work.proofs.summaries.mark_after.Goals as goal

pub loop-one-preserved : goal.loop-one-preserved
loop-one-preserved c =
    mark_more c.args.n c.args.i c.args.before.now c.loop-one.one-index counted.Begun c.loop-one.mark c.mark_then-mark.result (mark_after c.args.n c.args.i 0 c.args.before.now) c.loop-one-test.true c.mark_then-mark.ensures c.loop-one.invariant
