use Rattle.std.proofs.Common.{◌<◌, length, arith}
use Rattle.lay_bytes.specs.declared.records.OutRec.{OutRec}
use Rattle.queue_resets.specs.Resets.{changed_where, is_one_of, output_reset}
use Rattle.queue_resets.proofs.Loops.{map_here}
use Rattle.queue_resets.proofs.resets.reset_output_slots.Goals as goal

pub loop-slot-preserved : goal.loop-slot-preserved
loop-slot-preserved c =
    let inside : c.loop-slot.slot-index < length c.loop-slot.slots = omega arith in
    map_here c.loop-slot.slots c.loop-slot.slot-index inside (changed_where (λ (r : OutRec). is_one_of c.args.who r.busy) output_reset) _ _ _ c.loop-slot.invariant c.reset_output.ensures
