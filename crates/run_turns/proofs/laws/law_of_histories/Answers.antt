use Rattle.run_turns.proofs.Ledger.{queues_are_of_history}
use Rattle.run_turns.proofs.laws.law_of_histories.Goals as goal

pub returns : goal.returns
returns c = queues_are_of_history
