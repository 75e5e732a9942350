use Rattle.step_turns.proofs.Sittings.{no_unit_after_the_last}
use Rattle.step_turns.proofs.laws.law_of_units.Goals as goal

pub returns : goal.returns
returns c = no_unit_after_the_last
