use Rattle.run_turns.proofs.Alone.{steps_are_courses}
use Rattle.run_turns.proofs.laws.law_of_whole_steps.Goals as goal

pub returns : goal.returns
returns c = steps_are_courses
