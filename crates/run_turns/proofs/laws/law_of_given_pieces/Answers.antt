use Rattle.run_turns.proofs.Givens.{right_lines}
use Rattle.run_turns.proofs.laws.law_of_given_pieces.Goals as goal

pub returns : goal.returns
returns c = right_lines
