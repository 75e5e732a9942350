use Rattle.gate_turns.proofs.Showing.{begun_of}
use Rattle.gate_turns.proofs.laws.law_of_beginnings.Goals as goal

pub returns : goal.returns
returns g c = begun_of c.args.complex.now
