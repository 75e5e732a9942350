use Rattle.std.proofs.Common.{length}
use Rattle.ckpt_copy.proofs.Spreading.{spread_sync}
use Rattle.ckpt_copy.proofs.acts.write_synced.Goals as goal

pub returns-clause-during : goal.returns-clause-during
returns-clause-during g c told =
    let view = g.P.Plant.view in
    spread_sync c.args.dev c.args.at (length c.args.bytes.now) (view c.args.plant.now) (view c.write_act.new.plant) (view c.sync_act.new.plant)
    (c.write_act.ensures.during told) (c.sync_act.ensures.during told)
