use Rattle.step_turns.proofs.Causes.{lines_are_caused}
use Rattle.step_turns.proofs.laws.law_of_causes.Goals as goal

pub returns : goal.returns
returns c = lines_are_caused
