use Rattle.std.proofs.Common.{◌<◌, ◌&&◌, length, arith}
use Rattle.std.specs.Prelude.{false}
use Rattle.mas_types.specs.Ids.{same_number}
use Rattle.lay_bytes.specs.declared.records.OutRec.{OutRec}
use Rattle.queue_resets.specs.Resets.{changed_where}
use Rattle.queue_resets.proofs.Loops.{map_here}
use Rattle.queue_effect.proofs.operator.release_slots.Goals as goal

pub loop-slot-preserved : goal.loop-slot-preserved
loop-slot-preserved c =
    let inside : c.loop-slot.slot-index < length c.loop-slot.outputs = omega arith in
    map_here c.loop-slot.outputs c.loop-slot.slot-index inside (changed_where (λ (r : OutRec). same_number r.job c.args.job && r.held) (λ (r : OutRec). record r { held = false })) _ _ _ c.loop-slot.invariant c.released.ensures
