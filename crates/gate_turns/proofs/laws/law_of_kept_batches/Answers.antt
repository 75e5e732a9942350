use Rattle.gate_turns.proofs.KeptSame.{keeps_may}
use Rattle.gate_turns.proofs.laws.law_of_kept_batches.Goals as goal

pub returns : goal.returns
returns c = keeps_may
