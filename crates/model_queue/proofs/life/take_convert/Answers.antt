use Rattle.mas_types.specs.Selection.{is_for_convert}
use Rattle.mas_types.specs.Commands.Life.{made_busy}
use Rattle.model_queue.proofs.Rows.{first_job_changed}
use Rattle.model_queue.proofs.life.take_convert.Goals as goal

pub returns-in-Some : goal.returns-in-Some
returns-in-Some c = first_job_changed c.args.queue.now (is_for_convert c.args.queue.now) (made_busy c.args.by) c.in-Some.at _ _ c.in-Some.ensures.some c.change_at.ensures
