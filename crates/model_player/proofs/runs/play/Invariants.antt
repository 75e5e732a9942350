use Rattle.model_player.specs.Sounds.{AreSound}
use Rattle.model_player.proofs.runs.play.Given as goal

abbrev pub invariant-loop-step : goal.invariant-loop-step
invariant-loop-step l = AreSound l.spool.queues
