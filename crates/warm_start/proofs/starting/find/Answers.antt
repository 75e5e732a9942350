use Rattle.std.proofs.Common.{rules}
use Rattle.std.proofs.lemmas.Result.{err_from_is_err_and}
use Rattle.warm_start.proofs.Finding.{small_cause}
use Rattle.warm_start.proofs.starting.find.Goals as goal

pub returns-in_err-refuse_small-clause-cause : goal.returns-in_err-refuse_small-clause-cause
returns-in_err-refuse_small-clause-cause g c =
    let C = g.C.Copying in
    let old = g.P.Plant.view c.args.plant.now in
    let v = g.P.Plant.view c.choose_copy.new.plant in
    let a = c.choose_copy.new.pair.first in
    let b = c.choose_copy.new.pair.second in
    let p = err_from_is_err_and c.from_residual-in_err-refuse_small.result c.from_residual-in_err-refuse_small.ensures.1 in
    rw (p.1, p.2)
    (small_cause C.reads g.P.Plant.tells C.needs old v a.alive b.alive c.in_ok-start.start.found.pages c.in_ok-start.start.found.tables c.size_for-needed.result (search rules) c.in_ok-start.ensures.chosen.usable c.in_ok-start.ensures.chosen.sized c.in_ok-start.ensures.chosen.found _ c.in_err-refuse_small.ensures.small)
