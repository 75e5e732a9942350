use Rattle.mas_types.specs.Sound.{IsSound}
use Rattle.run_cases.proofs.plain.lines_from.Given as goal

abbrev pub invariant-loop-batch : goal.invariant-loop-batch
invariant-loop-batch l = IsSound l.queue
