use Rattle.std.proofs.Common.{sym, ◌∙◌}
use Rattle.queue_effect.proofs.Loops.{used_more}
use Rattle.queue_effect.proofs.displays.used_jobs.Goals as goal

pub loop-slot-preserved : goal.loop-slot-preserved
loop-slot-preserved c =
    let pushed = rw c.loop-slot.invariant at c.in_ok-push_job.ensures in
    pushed ∙ sym (used_more c.args.slots.now c.loop-slot.slot-index _ c.loop-slot-test.true)
