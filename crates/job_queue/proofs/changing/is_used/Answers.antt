use Rattle.std.proofs.Common.{◌∙◌}
use Rattle.job_queue.proofs.JobLemmas.{used_found}
use Rattle.job_queue.proofs.changing.is_used.Goals as goal

pub returns : goal.returns
returns c = λ js are. c.is_some.ensures ∙ used_found c.args.n c.args.jobs.now js c.find_job.result are c.find_job.ensures.some c.find_job.ensures.none
