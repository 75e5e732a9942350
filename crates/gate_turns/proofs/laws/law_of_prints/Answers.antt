use Rattle.gate_turns.proofs.Counts.{prints_may}
use Rattle.gate_turns.proofs.laws.law_of_prints.Goals as goal

pub returns : goal.returns
returns c = prints_may
