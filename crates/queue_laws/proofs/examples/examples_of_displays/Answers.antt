use Rattle.queue_laws.proofs.Computed.{spool_is_shown, members_are_shown, one_job_is_shown}
use Rattle.queue_laws.proofs.examples.examples_of_displays.Goals as goal

pub returns : goal.returns
returns c = record {
  spool = spool_is_shown;
  members = members_are_shown;
  job = one_job_is_shown;
}
