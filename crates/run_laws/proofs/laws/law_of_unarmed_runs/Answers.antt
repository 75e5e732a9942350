use Rattle.std.proofs.Common.{◌≡◌, sym, subst}
use Rattle.spool_plant.specs.View.{View}
use Rattle.run_laws.proofs.Unstopped.{still_unarmed}
use Rattle.run_laws.proofs.laws.law_of_unarmed_runs.Goals as goal

pub returns-clause-bare : goal.returns-clause-bare
returns-clause-bare g c halts m b e p is before none =
    let unarmed = subst (λ (v : View). v.arms m ≡ 0) is (still_unarmed ⊥ m b e p before none) in
    let unstopped = g.met.P.Plant.unarmed c.args.plant.now halts m unarmed in
    c.law_of_plays_on.ensures.bare m b e p (subst (λ (v : View). v.stops m ≡ 0) (sym is) unstopped)

pub returns-clause-told : goal.returns-clause-told
returns-clause-told g c halts m b e p is before none =
    let unarmed = subst (λ (v : View). v.arms m ≡ 0) is (still_unarmed (Unit {0}) m b e p before none) in
    let unstopped = g.met.P.Plant.unarmed c.args.plant.now halts m unarmed in
    c.law_of_plays_on.ensures.told m b e p (subst (λ (v : View). v.stops m ≡ 0) (sym is) unstopped)
