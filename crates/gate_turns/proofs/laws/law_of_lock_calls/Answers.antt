use Rattle.gate_turns.proofs.Booked.{tries_may, frees_may, stops_may, seizes_may, spends_may}
use Rattle.gate_turns.proofs.laws.law_of_lock_calls.Goals as goal

pub returns : goal.returns
returns c = record { tries = tries_may; frees = frees_may; stops = stops_may; seizes = seizes_may; spends = spends_may }
