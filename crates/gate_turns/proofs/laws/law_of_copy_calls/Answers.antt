use Rattle.gate_turns.proofs.Called.{copy_acts_count, pair_acts_count, losses_count, reserves_may, gives_up_may, calls_may, puts_may}
use Rattle.gate_turns.proofs.Counts.{batches_leave}
use Rattle.gate_turns.proofs.laws.law_of_copy_calls.Goals as goal

pub returns : goal.returns
returns c = record { copy = copy_acts_count; pair = pair_acts_count; losses = losses_count; reserves = reserves_may; gives_up = gives_up_may; calls = calls_may; puts = puts_may; counts = batches_leave }
