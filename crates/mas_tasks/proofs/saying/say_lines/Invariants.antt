use Rattle.std.proofs.Common.{take}
use Rattle.mas_tasks.specs.Saying.{Adds}
use Rattle.mas_tasks.proofs.saying.say_lines.Given as goal

abbrev pub invariant-loop-at : goal.invariant-loop-at
invariant-loop-at g l =
    let P = g.P.Plant in
    Adds P.tells (take l.at l.lines) (P.view l.fn.plant) (P.view l.plant)
