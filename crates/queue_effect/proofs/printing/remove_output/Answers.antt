use Rattle.page_marks.proofs.MarkLemmas.{touches_then}
use Rattle.mas_types.specs.Commands.Printing.{output_removed}
use Rattle.queue_effect.proofs.Changing.{output_taken}
use Rattle.queue_effect.proofs.printing.remove_output.Goals as goal

pub returns-clause-stands : goal.returns-clause-stands
returns-clause-stands c = λ Q stands has.
    c.close_job.ensures.stands (output_removed c.args.job c.args.index Q)
    (rw (c.free_groups.ensures.value, c.take_output.ensures.value) (output_taken c.args.tables.now Q c.args.job c.args.index c.args.found.now.at c.args.found.now.item stands has))

pub returns-clause-touches : goal.returns-clause-touches
returns-clause-touches c fit =
    let taken = c.take_output.ensures.fit fit in
    let freed = c.free_groups.ensures.fit taken in
    touches_then _ _ _ _ _ _ (c.take_output.ensures.touches fit) (touches_then _ _ _ _ _ _ (c.free_groups.ensures.touches taken) (c.close_job.ensures.touches freed))
