use Rattle.model_player.specs.Sounds.{AreSound}
use Rattle.model_player.proofs.works.work.Given as goal

abbrev pub invariant-loop-done : goal.invariant-loop-done
invariant-loop-done l = AreSound l.spool.queues
