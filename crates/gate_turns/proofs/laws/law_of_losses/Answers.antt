use Rattle.gate_turns.proofs.Lost.{desk_lost, history_lost, again_back, first_back, spare_holders, arms_leave}
use Rattle.gate_turns.proofs.laws.law_of_losses.Goals as goal

pub returns : goal.returns
returns c = record { desks = desk_lost; history = history_lost; again = again_back; first = first_back; spared = spare_holders; arms = arms_leave }
