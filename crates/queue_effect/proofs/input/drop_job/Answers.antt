use Rattle.queue_effect.proofs.Marking.{then_touched}
use Rattle.queue_effect.proofs.input.drop_job.Goals as goal

pub returns-in-Ok-clause-touches : goal.returns-in-Ok-clause-touches
returns-in-Ok-clause-touches c = then_touched _ _ _ _ _ _ c.take_job.ensures.touches c.take_job.ensures.fit c.free_members-in-Ok.ensures.touches
