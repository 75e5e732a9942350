use Rattle.run_laws.proofs.Copies.{crashes_leave}
use Rattle.run_laws.proofs.laws.law_of_crashes.Goals as goal

pub returns : goal.returns
returns c = crashes_leave
