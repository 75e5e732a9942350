use Rattle.queue_laws.proofs.Computed.{first_job_is_converted, greatest_priority_is_converted, held_job_is_passed_over, reset_purges_what_may_not_restart}
use Rattle.queue_laws.proofs.examples.examples_of_work.Goals as goal

pub returns : goal.returns
returns c = record {
  first = first_job_is_converted;
  greatest = greatest_priority_is_converted;
  held = held_job_is_passed_over;
  reset = reset_purges_what_may_not_restart;
}
