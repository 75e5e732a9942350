use Rattle.std.proofs.Common.{◌<◌, length, arith}
use Rattle.member_core.specs.Events.{has_risen}
use Rattle.model_queue.proofs.Writes.{map_here}
use Rattle.member_core.proofs.starts.rise_all.Goals as goal

pub loop-member-preserved : goal.loop-member-preserved
loop-member-preserved c =
    let inside : c.loop-member.member-index < length c.loop-member.members = omega arith in
    map_here c.loop-member.members c.loop-member.member-index inside has_risen _ _ c.member-item.result c.loop-member.invariant c.rise.ensures
