use Rattle.step_turns.proofs.Holds.{holds_change_no_entry}
use Rattle.step_turns.proofs.laws.law_of_holds.Goals as goal

pub returns : goal.returns
returns c = holds_change_no_entry
