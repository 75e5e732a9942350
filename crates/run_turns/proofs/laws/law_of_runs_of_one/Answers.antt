use Rattle.run_turns.proofs.One.{runs_of_one_are_whole}
use Rattle.run_turns.proofs.laws.law_of_runs_of_one.Goals as goal

pub returns : goal.returns
returns c = runs_of_one_are_whole
