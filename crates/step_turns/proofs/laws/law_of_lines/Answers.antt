use Rattle.step_turns.proofs.LineFacts.{acknowledged_are_got, counts_go_on, offers_are_loaded}
use Rattle.step_turns.proofs.Straight.{line_is_read_straight}
use Rattle.step_turns.proofs.laws.law_of_lines.Goals as goal

pub returns : goal.returns
returns c = record { offers = offers_are_loaded; acknowledges = acknowledged_are_got; counts = counts_go_on; straight = line_is_read_straight }
