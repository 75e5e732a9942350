use Rattle.std.proofs.Common.{◌<◌, length, arith}
use Rattle.std.specs.Prelude.{if◌then◌else◌}
use Rattle.model_queue.proofs.Writes.{map_here}
use Rattle.model_queue.proofs.picking.change_each.Goals as goal

pub loop-item-preserved : goal.loop-item-preserved
loop-item-preserved g c =
    let inside : c.loop-item.item-index < length c.loop-item.items = omega arith in
    map_here c.loop-item.items c.loop-item.item-index inside (λ x. if g.P.Picks.picks c.args.test.now x then g.F.Changes.changed c.args.change.now x else x) _ _ c.item-item.result c.loop-item.invariant c.change_if.ensures
