use Rattle.gate_turns.proofs.Renewals.{renewals_desks, renewals_history, renewals_counts}
use Rattle.gate_turns.proofs.laws.law_of_renewals.Goals as goal

pub returns : goal.returns
returns c = record { desks = renewals_desks; history = renewals_history; counts = renewals_counts }
