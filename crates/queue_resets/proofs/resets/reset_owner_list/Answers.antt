use Rattle.std.proofs.Common.{◌<◌, length, arith}
use Rattle.std.specs.Prelude.{if◌then◌else◌}
use Rattle.mas_types.specs.declared.queues.Owner.{Owner}
use Rattle.mas_types.specs.declared.queues.Owner.TheVariants as owner
use Rattle.mas_types.specs.Owners.{is_held_by}
use Rattle.queue_resets.specs.Resets.{is_one_of}
use Rattle.queue_resets.proofs.Loops.{map_here}
use Rattle.queue_resets.proofs.resets.reset_owner_list.Goals as goal

pub loop-owner-preserved : goal.loop-owner-preserved
loop-owner-preserved c =
    let inside : c.loop-owner.owner-index < length c.loop-owner.owners = omega arith in
    map_here c.loop-owner.owners c.loop-owner.owner-index inside (λ (g : Owner). if is_held_by (is_one_of c.args.who) g then owner.Free else g) _ _ _ c.loop-owner.invariant c.reset_owner.ensures
