use Rattle.std.proofs.Common.{refl, List, ℕ, subst}
use Rattle.mas_tasks.specs.Generates.{IsSaid}
use Rattle.mas_tasks.proofs.GenerateLemmas.{may_say}
use Rattle.mas_tasks.proofs.generating.sum_up.Goals as goal

pub returns-in-Err-clause-summed : goal.returns-in-Err-clause-summed
returns-in-Err-clause-summed g c = refl

pub returns-clause-summed : goal.returns-clause-summed
returns-clause-summed g c =
    let P = g.P.Plant in
    let old = P.view c.args.plant in
    let new = P.view c.say_line-status.new.plant in
    may_say P.tells _ c.say_line-status.result old new
    (subst (λ (l : List ℕ). IsSaid P.tells l c.say_line-status.result old new) c.in-Ok.ensures (subst (λ (l : List ℕ). IsSaid P.tells l c.say_line-status.result old new) c.as_slice.ensures c.say_line-status.ensures.said))
