use Rattle.run_turns.proofs.LineComputed.{job_is_got_once, job_is_sent_on, stop_at_the_ack, stop_before_the_ack}
use Rattle.run_turns.proofs.examples.examples_of_lines.Goals as goal

pub returns : goal.returns
returns c = record { goes = job_is_sent_on; comes = job_is_got_once; stops = stop_at_the_ack; before = stop_before_the_ack }
