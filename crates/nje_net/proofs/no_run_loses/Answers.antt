use Rattle.nje_net.proofs.Moves.{no_run_loses}
use Rattle.nje_net.proofs.no_run_loses.Goals as goal

pub returns : goal.returns
returns c = λ net events ok. no_run_loses net events ok
