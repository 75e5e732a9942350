-- What every step keeps.
use Rattle.mas_types.specs.Sound.{IsSound}
use Rattle.model_player.specs.declared.spools.Queues.{Queues}

-- the queue of all commands is sound, and so is the queue that is kept
pub record AreSound (q : Queues) : Type 0 where
  pub queue : IsSound q.queue
  pub kept : IsSound q.kept
