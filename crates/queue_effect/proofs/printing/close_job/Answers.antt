use Rattle.queue_slots.proofs.Founds.{found_within}
use Rattle.queue_effect.proofs.Changing.{no_job_over}
use Rattle.queue_effect.proofs.printing.close_job.Goals as goal

pub returns-in_default-clause-stands : goal.returns-in_default-clause-stands
returns-in_default-clause-stands c = λ Q stands. no_job_over c.args.tables.now Q c.args.job stands (c.in_default.ensures.none Q stands)

pub put_job-requires : goal.put_job-requires
put_job-requires c = found_within c.args.tables.now.jobs c.in-Some.found c.in-Some.ensures.here
