use Rattle.std.proofs.Common.{ap, ◌∙◌, ℕ, arith}
use Rattle.spool_plant.specs.View.{disk_now}
use Rattle.change_log.specs.Logs.{block}
use Rattle.change_log.proofs.log_copy.LogCopyCopying.read_page.Goals as goal

pub read_act-requires : goal.read_act-requires
read_act-requires g c =
    let here = c.requires.ready.inside c.args.page c.requires.page in
    omega (arith, here, c.requires.ready.ready.large)

pub returns-clause-read : goal.returns-clause-read
returns-clause-read g c told was rests =
    (c.in_ok-read_act.ensures.read told).read
    ∙ ap (λ (b : ℕ). block b (disk_now (g.P.Plant.view c.args.plant.now) c.args.self.now.dev).bytes) (rests.stand_as c.args.page c.requires.page)
    ∙ (rests.stands.here c.args.page c.requires.page).there
