use Rattle.queue_effect.proofs.Marking.{owners_refilled}
use Rattle.queue_effect.proofs.members.reset_owners.Goals as goal

pub returns-clause-touches : goal.returns-clause-touches
returns-clause-touches c fit = owners_refilled c.args.marks.now.pages _ c.args.marks.now.many c.args.tables.now fit _ c.put_groups.ensures
