use Rattle.gate_turns.proofs.Actors.{own_leave, others_leave, takeovers_may, failed_takeovers_may}
use Rattle.gate_turns.proofs.Called.{opens_may, recovers_may}
use Rattle.gate_turns.proofs.LeftGroups.{passing_leaves}
use Rattle.gate_turns.proofs.laws.law_of_fates.Goals as goal

pub returns : goal.returns
returns c = record { passing = passing_leaves; own = own_leave; others = others_leave; opens = opens_may; recovers = recovers_may; takeovers = takeovers_may; failed = failed_takeovers_may }
