use Rattle.run_turns.proofs.Computed.{paper_goes_on_at_the_mark, printing_is_taken_over}
use Rattle.run_turns.proofs.examples.examples_of_printing.Goals as goal

pub returns : goal.returns
returns c = record { console = printing_is_taken_over; paper = paper_goes_on_at_the_mark }
