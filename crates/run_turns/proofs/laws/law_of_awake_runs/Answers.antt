use Rattle.run_turns.proofs.Awake.{awake_runs}
use Rattle.run_turns.proofs.laws.law_of_awake_runs.Goals as goal

pub returns : goal.returns
returns c = awake_runs
