use Rattle.model_player.specs.Sounds.{AreSound}
use Rattle.model_player.proofs.works.try_next.Given as goal

abbrev pub invariant-loop-kind : goal.invariant-loop-kind
invariant-loop-kind l = AreSound l.spool.queues
