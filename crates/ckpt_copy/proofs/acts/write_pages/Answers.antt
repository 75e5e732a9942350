use Rattle.std.proofs.Common.{◌*◌, length}
use Rattle.mas_types.specs.Limits.{page_bytes}
use Rattle.ckpt_copy.proofs.Spreading.{spread_sync}
use Rattle.ckpt_copy.proofs.acts.write_pages.Goals as goal

pub returns-clause-during : goal.returns-clause-during
returns-clause-during g c told =
    let view = g.P.Plant.view in
    spread_sync c.args.dev c.args.start (page_bytes * length c.args.pages.now) (view c.args.plant.now) (view c.write_each.new.plant) (view c.sync_act.new.plant)
    (c.write_each.ensures.during told) (c.sync_act.ensures.during told)
