use Rattle.queue_laws.proofs.Computed.{sent_job_is_numbered, got_job_is_numbered, unknown_node_is_refused}
use Rattle.queue_laws.proofs.examples.examples_of_lines.Goals as goal

pub returns : goal.returns
returns c = record {
  sent = sent_job_is_numbered;
  got = got_job_is_numbered;
  no_node = unknown_node_is_refused;
}
