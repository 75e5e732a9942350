use Rattle.queue_effect.proofs.PhaseLemmas.{none_at_work}
use Rattle.queue_effect.proofs.units.working.Goals as goal

pub returns-then-not-may_be : goal.returns-then-not-may_be
returns-then-not-may_be c = λ Q tell. none_at_work c.args.phase c.args.tables.now.jobs c.args.may_be c.requires c.if-not-may_be.true Q tell.jobs c.args.by
