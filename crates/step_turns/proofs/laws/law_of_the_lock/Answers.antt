use Rattle.step_turns.proofs.Sittings.{lock_is_held_rightly}
use Rattle.step_turns.proofs.laws.law_of_the_lock.Goals as goal

pub returns : goal.returns
returns c = lock_is_held_rightly
