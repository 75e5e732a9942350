use Rattle.run_laws.proofs.Found.{goes_on}
use Rattle.run_laws.proofs.laws.law_of_next_runs.Goals as goal

pub returns : goal.returns
returns g c = goes_on c.law_of_checkpoints.ensures.tables c.law_of_runs.ensures.configuration c.law_of_runs.ensures.sound g.P.Plant.tells g.N.Plant.tells
