use Rattle.queue_effect.proofs.Marking.{owners_changed}
use Rattle.queue_effect.proofs.groups.free_members.Goals as goal

pub returns-clause-touches : goal.returns-clause-touches
returns-clause-touches c fit = owners_changed c.args.marks.now.pages _ c.args.marks.now.many c.args.tables.now fit c.span_of_all-span.result _ _ c.as_mut_slice.ensures.value c.free_members_in.ensures.rest c.put_groups_between.ensures
