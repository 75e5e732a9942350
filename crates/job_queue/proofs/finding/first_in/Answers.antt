use Rattle.std.proofs.Common.{◌∙◌}
use Rattle.mas_types.specs.Queue.{is_in}
use Rattle.job_queue.specs.Jobs.{in_phase}
use Rattle.job_queue.proofs.JobLemmas.{number_found}
use Rattle.job_queue.proofs.finding.first_in.Goals as goal

pub returns : goal.returns
returns c = λ Q are. c.number_of.ensures ∙ number_found (is_in (in_phase c.args.phase)) c.args.jobs.now Q.jobs c.find_in.result are c.find_in.ensures.some c.find_in.ensures.none
