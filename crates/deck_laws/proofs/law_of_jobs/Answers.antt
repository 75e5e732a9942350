use Rattle.deck_laws.proofs.Jobs.{job_read, job_reads}
use Rattle.deck_laws.proofs.law_of_jobs.Goals as goal

pub returns : goal.returns
returns c own cards fields = (job_read own cards fields, λ is. job_reads own cards fields is.0 is.1)
