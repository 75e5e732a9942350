use Rattle.mas_types.specs.Owners.{is_members}
use Rattle.queue_effect.proofs.Marking.{owners_changed}
use Rattle.queue_effect.proofs.SpanLemmas.{holds_there}
use Rattle.queue_effect.proofs.groups.give_groups.Goals as goal

pub give_in-requires-clause-holds : goal.give_in-requires-clause-holds
give_in-requires-clause-holds c = holds_there (is_members c.args.by) c.args.count c.span_of-span.result _ _ _ c.as_slice.ensures c.as_mut_slice.ensures.value c.span_of-span.ensures

pub returns-clause-touches : goal.returns-clause-touches
returns-clause-touches c fit = owners_changed c.args.marks.now.pages _ c.args.marks.now.many c.args.tables.now fit c.span_of-span.result _ _ c.as_mut_slice.ensures.value c.give_in.ensures.rest c.put_groups_between.ensures
