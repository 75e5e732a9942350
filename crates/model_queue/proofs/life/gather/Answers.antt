use Rattle.mas_types.specs.Queue.{in_output, is_in}
use Rattle.mas_types.specs.Commands.Life.{gathered}
use Rattle.model_queue.proofs.Rows.{first_job_changed}
use Rattle.model_queue.proofs.life.gather.Goals as goal

pub returns-in-Some : goal.returns-in-Some
returns-in-Some c = first_job_changed c.args.queue.now (is_in in_output) (gathered c.args.queue.now) c.in-Some.at _ _ c.in-Some.ensures.some c.change_at.ensures
