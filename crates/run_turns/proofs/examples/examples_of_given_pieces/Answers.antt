use Rattle.run_turns.proofs.GivenComputed.{pieces_are_what_is_said, queue_refuses, run_ends_in_a_line, run_goes_on_after_a_stop}
use Rattle.run_turns.proofs.examples.examples_of_given_pieces.Goals as goal

pub returns : goal.returns
returns c = record {
  said = pieces_are_what_is_said;
  refused = queue_refuses;
  goes_on = run_goes_on_after_a_stop;
  ends = run_ends_in_a_line;
}
