use Rattle.gate_turns.proofs.Giving.{may_itself, may_go_on}
use Rattle.gate_turns.proofs.laws.law_of_giving_back.Goals as goal

pub returns : goal.returns
returns c = record { itself = may_itself; one_by_one = may_go_on }
