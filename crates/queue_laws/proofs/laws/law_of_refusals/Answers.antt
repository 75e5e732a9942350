use Rattle.queue_laws.proofs.Refused.{refused_changes_nothing}
use Rattle.queue_laws.proofs.laws.law_of_refusals.Goals as goal

pub returns : goal.returns
returns c = refused_changes_nothing
