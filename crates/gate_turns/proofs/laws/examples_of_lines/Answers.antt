use Rattle.std.proofs.Common.{refl}
use Rattle.gate_turns.specs.Words.{speaker}
use Rattle.gate_turns.specs.Examples.{LinesAreTheirs}
use Rattle.gate_turns.proofs.laws.examples_of_lines.Goals as goal

theirs : LinesAreTheirs
unfolding speaker
theirs = (refl, refl, refl, refl, refl, refl)

pub returns : goal.returns
returns c = theirs
