use Rattle.mas_types.specs.Sound.{IsSound}
use Rattle.run_cases.proofs.plain.give_all.Given as goal

abbrev pub invariant-loop-brief : goal.invariant-loop-brief
invariant-loop-brief l = IsSound l.queue
