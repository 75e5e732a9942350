use Rattle.step_turns.proofs.Endings.{courses_end}
use Rattle.step_turns.proofs.Sittings.{lines_are_said_at_the_end, steps_end}
use Rattle.step_turns.proofs.laws.law_of_ends.Goals as goal

pub returns : goal.returns
returns c = record { lines = lines_are_said_at_the_end; measure = steps_end; enough = courses_end }
