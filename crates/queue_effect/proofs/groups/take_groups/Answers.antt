use Rattle.mas_types.specs.Owners.{is_free}
use Rattle.queue_effect.proofs.Marking.{owners_changed}
use Rattle.queue_effect.proofs.SpanLemmas.{holds_there}
use Rattle.queue_effect.proofs.groups.take_groups.Goals as goal

pub take_in-requires : goal.take_in-requires
take_in-requires c = holds_there is_free c.args.want c.span_of-span.result _ _ _ c.as_slice.ensures c.as_mut_slice.ensures.value c.span_of-span.ensures

pub returns-clause-touches : goal.returns-clause-touches
returns-clause-touches c fit = owners_changed c.args.marks.now.pages _ c.args.marks.now.many c.args.tables.now fit c.span_of-span.result _ _ c.as_mut_slice.ensures.value c.take_in.ensures.rest c.put_groups_between.ensures
