use Rattle.gate_turns.proofs.Busy.{busy_stays, busy_known}
use Rattle.gate_turns.proofs.laws.law_of_busy_things.Goals as goal

pub returns : goal.returns
returns c = record { stays = busy_stays; known = busy_known }
