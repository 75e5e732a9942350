use Rattle.std.proofs.Common.{ℕ, ◌++◌, List, [], ◌∷◌, take, get_or, sym, subst, arith}
use Rattle.std.proofs.lemmas.List.{take_more, take_all}
use Rattle.job_select.specs.Best.{IsBestIn}
use Rattle.job_select.proofs.BestLemmas.{best_more}
use Rattle.job_select.proofs.choices.walk.Goals as goal

pub loop-at-preserved : goal.loop-at-preserved
loop-at-preserved g c =
    let chain = c.args.chain.now in
    let at = c.loop-at.at-index in
    subst (λ (xs : List ℕ). IsBestIn g.T.Ordered.order (g.C.Choice.rank c.args.choice.now) (g.C.Choice.picks c.args.choice.now) c.args.slots.now xs c.better_at-best.result)
    (sym (take_more chain at 0 c.loop-at-test.true))
    (subst (λ o. IsBestIn g.T.Ordered.order (g.C.Choice.rank c.args.choice.now) (g.C.Choice.picks c.args.choice.now) c.args.slots.now (take at chain ++ get_or chain at 0 ∷ []) o)
    (sym c.better_at-best.ensures)
    (best_more g.T.Ordered.order (g.C.Choice.rank c.args.choice.now) (g.C.Choice.picks c.args.choice.now) c.args.slots.now (take at chain) (get_or chain at 0) c.loop-at.best c.loop-at.invariant))

pub returns : goal.returns
returns g c =
    subst (λ (xs : List ℕ). IsBestIn g.T.Ordered.order (g.C.Choice.rank c.args.choice.now) (g.C.Choice.picks c.args.choice.now) c.args.slots.now xs c.loop-at.best)
    (take_all c.loop-at.at-index c.args.chain.now (omega arith)) c.loop-at.invariant
