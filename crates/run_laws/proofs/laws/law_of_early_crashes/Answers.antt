use Rattle.run_laws.proofs.Early.{early}
use Rattle.run_laws.proofs.laws.law_of_early_crashes.Goals as goal

pub returns : goal.returns
returns g c = early g.N.Plant.tells
