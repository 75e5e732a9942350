use Rattle.mas_types.specs.Queue.{change_job}
use Rattle.mas_types.specs.Commands.Life.{ended}
use Rattle.queue_effect.proofs.EndLemmas.{job_ended, rest_freed}
use Rattle.queue_effect.proofs.Marking.{then_touched}
use Rattle.queue_effect.proofs.ending.end_with.Goals as goal

pub returns-clause-stands : goal.returns-clause-stands
returns-clause-stands c = λ Q stands has.
    let after = c.add_outputs.ensures.stands (change_job c.args.job ended Q) (rw (c.put_job.ensures.value, c.ended_record.ensures.value) (job_ended c.args.tables.now Q c.args.job c.args.found.now.at c.args.found.now.item stands has)) in
    rw c.free_members.ensures.value
    (rest_freed c.law_of_giving.ensures.texts c.law_of_giving.ensures.all c.add_outputs.new.tables (change_job c.args.job ended Q) c.args.by c.args.job c.args.outputs.now after)

pub returns-clause-touches : goal.returns-clause-touches
returns-clause-touches c =
    then_touched _ _ _ _ _ _
    (then_touched _ _ _ _ _ _ c.put_job.ensures.touches (c.put_job.ensures.fit c.args.found.now.item c.requires.here (c.ended_record.ensures.fit c.args.tables.now.order)) c.add_outputs.ensures.touches)
    (λ fit. c.add_outputs.ensures.fits) c.free_members.ensures.touches
