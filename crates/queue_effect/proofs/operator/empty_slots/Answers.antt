use Rattle.std.proofs.Common.{◌<◌, length, arith}
use Rattle.mas_types.specs.Ids.{same_number}
use Rattle.lay_bytes.specs.declared.records.OutRec.{OutRec}
use Rattle.queue_effect.specs.Slots.{emptied_where}
use Rattle.queue_resets.proofs.Loops.{map_here}
use Rattle.queue_effect.proofs.operator.empty_slots.Goals as goal

pub loop-slot-preserved : goal.loop-slot-preserved
loop-slot-preserved c =
    let inside : c.loop-slot.slot-index < length c.loop-slot.outputs = omega arith in
    map_here c.loop-slot.outputs c.loop-slot.slot-index inside (emptied_where (λ (r : OutRec). same_number r.job c.args.job)) _ _ _ c.loop-slot.invariant c.emptied.ensures
