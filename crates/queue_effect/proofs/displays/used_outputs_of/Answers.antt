use Rattle.std.proofs.Common.{sym, ◌∙◌}
use Rattle.mas_types.specs.Ids.{same_number}
use Rattle.lay_bytes.specs.declared.records.OutRec.{OutRec}
use Rattle.queue_effect.proofs.Loops.{kept_more}
use Rattle.queue_effect.proofs.displays.used_outputs_of.Goals as goal

pub loop-slot-preserved : goal.loop-slot-preserved
loop-slot-preserved c =
    let pushed = rw c.loop-slot.invariant at c.in_ok-push_output_of.ensures in
    pushed ∙ sym (kept_more (λ (r : OutRec). same_number r.job c.args.job) c.args.slots.now c.loop-slot.slot-index _ c.loop-slot-test.true)
