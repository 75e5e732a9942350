use Rattle.page_marks.proofs.MarkLemmas.{touches_then}
use Rattle.queue_effect.proofs.life.purge.Goals as goal

pub returns-clause-touches : goal.returns-clause-touches
returns-clause-touches c fit =
    touches_then _ _ _ _ _ _ (c.take_job.ensures.touches fit) (c.free_groups.ensures.touches (c.take_job.ensures.fit fit))
