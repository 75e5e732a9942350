use Rattle.std.proofs.Common.{ℕ, List, take, sym, subst}
use Rattle.cmd_report.proofs.Pieces.{take-one_more}
use Rattle.mas_tasks.specs.Saying.{Adds}
use Rattle.mas_tasks.proofs.SayLemmas.{adds_more}
use Rattle.mas_tasks.proofs.saying.say_lines.Goals as goal

pub loop-at-preserved : goal.loop-at-preserved
loop-at-preserved g c =
    let P = g.P.Plant in
    let lines = c.args.lines.now in
    let line = c.line.result.now in
    let more = adds_more P.tells (take c.loop-at.at lines) line (P.view c.args.plant.now) (P.view c.loop-at.plant) (P.view c.say.new.self) c.loop-at.invariant 0 c.in-Done.ensures.acts c.in-Done.ensures.content in
    subst (λ (l : List (List ℕ)). Adds P.tells l (P.view c.args.plant.now) (P.view c.say.new.self)) (sym (take-one_more lines c.loop-at.at line c.line.ensures)) more
