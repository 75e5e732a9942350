use Rattle.run_turns.proofs.Locks.{free_gives_up, holds_are_spent, lock_keeps, others_leave_the_lock}
use Rattle.run_turns.proofs.laws.law_of_locks.Goals as goal

pub returns : goal.returns
returns c = record { keeps = lock_keeps; spends = holds_are_spent; frees = free_gives_up; others = others_leave_the_lock }
