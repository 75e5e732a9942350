use Rattle.std.proofs.Common.{◌<◌, length, arith}
use Rattle.std.specs.Prelude.{if◌then◌else◌}
use Rattle.mas_types.specs.declared.queues.Owner.{Owner}
use Rattle.mas_types.specs.declared.queues.Owner.TheVariants as owner
use Rattle.track_groups.specs.Groups.{is_things}
use Rattle.track_groups.proofs.Walks.{map_here}
use Rattle.track_groups.proofs.changes.free_thing.Goals as goal

pub loop-owner-preserved : goal.loop-owner-preserved
loop-owner-preserved c =
    let inside : c.loop-owner.owner-index < length c.loop-owner.owners = omega arith in
    map_here c.loop-owner.owners c.loop-owner.owner-index inside (λ (g : Owner). if is_things c.args.thing g then owner.Free else g) _ _ _ c.loop-owner.invariant (rw c.is_things.ensures at c.free_if.ensures)
