use Rattle.std.proofs.Common.{ap, sym}
use Rattle.std.specs.Prelude.{is_some}
use Rattle.queue_effect.proofs.PhaseLemmas.{none_in}
use Rattle.queue_effect.proofs.units.any_in.Goals as goal

pub returns-else-may_be : goal.returns-else-may_be
returns-else-may_be c = λ Q tell.
    rw c.if-may_be.false (sym (ap is_some (none_in c.args.phase c.args.tables.now.jobs c.args.may_be c.requires c.if-may_be.false Q.jobs tell.jobs)))
