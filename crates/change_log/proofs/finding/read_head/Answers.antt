use Rattle.std.proofs.Common.{ℕ, subst}
use Rattle.spool_plant.specs.View.{disk_now}
use Rattle.change_log.specs.LogFound.{IsHeadIn}
use Rattle.change_log.proofs.LogFinds.{head_read}
use Rattle.change_log.proofs.finding.read_head.Goals as goal

pub returns-clause-head : goal.returns-clause-head
returns-clause-head g c told =
    let bytes = (disk_now (g.P.Plant.view c.args.plant.now) c.args.dev).bytes in
    subst (λ (k : ℕ). IsHeadIn c.head_of.result bytes k) c.size-size.ensures
    (head_read bytes c.read_act.new.into (c.in_ok-read_act.ensures.read told).read c.head_of.result c.size-size.result c.head_of.ensures.head)
