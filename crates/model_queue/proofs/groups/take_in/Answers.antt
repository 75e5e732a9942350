use Rattle.std.proofs.Common.{◌<◌, length, arith}
use Rattle.model_queue.proofs.Handing.{take_here}
use Rattle.model_queue.proofs.groups.take_in.Goals as goal

pub loop-owner-preserved : goal.loop-owner-preserved
loop-owner-preserved c =
    let inside : c.loop-owner.owner-index < length c.loop-owner.owners = omega arith in
    take_here c.args.by c.loop-owner.left _ c.loop-owner.owners c.loop-owner.owner-index inside c.loop-owner.invariant _ _ c.take_group-left.ensures.owner c.take_group-left.ensures.left
