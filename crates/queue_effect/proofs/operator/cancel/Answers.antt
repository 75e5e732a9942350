use Rattle.std.proofs.Common.{sym, ◌∙◌}
use Rattle.queue_slots.proofs.Founds.{found_within}
use Rattle.mas_types.specs.Commands.Operator.{cancel_row}
use Rattle.mas_types.specs.declared.commands.Refusal.TheVariants as refusal
use Rattle.queue_effect.proofs.Changing.{cancel_elsewhere}
use Rattle.queue_effect.proofs.Leaving.{refused}
use Rattle.queue_effect.proofs.Marking.{then_touched}
use Rattle.queue_effect.proofs.operator.cancel.Goals as goal

pub returns-in-Some-printing_elsewhere-clause-plays : goal.returns-in-Some-printing_elsewhere-clause-plays
returns-in-Some-printing_elsewhere-clause-plays c = λ Q stands.
    let has = c.in-Some.ensures.some Q stands in
    let prints = c.in-Some-printing_elsewhere.ensures.some Q stands in
    refused c.args.tables.now Q (cancel_row Q c.args.by c.args.job) (refusal.InUse c.in-Some-printing_elsewhere.output.item.busy) stands
    (cancel_elsewhere c.args.tables.now Q c.args.by c.args.job c.in-Some.found.at c.in-Some-printing_elsewhere.output.at c.in-Some.found.item c.in-Some-printing_elsewhere.output.item stands has prints
    (sym c.is_past_cancel.ensures ∙ c.if-is_past_cancel.false))

pub put_job-requires : goal.put_job-requires
put_job-requires c = found_within c.args.tables.now.jobs c.in-Some.found c.in-Some.ensures.here

pub put_job-requires-2 : goal.put_job-requires-2
put_job-requires-2 c = rw c.drop_outputs.ensures.jobs (found_within c.args.tables.now.jobs c.in-Some.found c.in-Some.ensures.here)

pub returns-clause-touches : goal.returns-clause-touches
returns-clause-touches c = then_touched _ _ _ _ _ _ c.drop_outputs.ensures.touches c.drop_outputs.ensures.fit c.put_job-2.ensures.touches
