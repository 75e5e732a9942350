use Rattle.std.proofs.Common.{ℕ, List, take, get_or, sym, subst, ◌∙◌, arith}
use Rattle.std.proofs.lemmas.List.{take_more, take_all}
use Rattle.job_select.specs.Best.{NonePicked}
use Rattle.job_select.proofs.BestLemmas.{none_picked_more, any_picked, none_picked, none_found}
use Rattle.job_select.proofs.choices.any_in.Goals as goal

pub loop-at-init : goal.loop-at-init
loop-at-init g c = λ j y there e. absurd cc

pub loop-at-preserved : goal.loop-at-preserved
loop-at-preserved g c =
    let chain = c.args.chain.now in
    let at = c.loop-at.at-index in
    subst (λ (xs : List ℕ). NonePicked g.T.Ordered.order (g.C.Choice.rank c.args.choice.now) (g.C.Choice.picks c.args.choice.now) c.args.slots.now xs) (sym (take_more chain at 0 c.loop-at-test.true))
    (none_picked_more g.T.Ordered.order (g.C.Choice.rank c.args.choice.now) (g.C.Choice.picks c.args.choice.now) c.args.slots.now (take at chain) (get_or chain at 0) c.loop-at.invariant
    (sym c.picks_at.ensures ∙ c.if-picks_at.false))

pub returns-then-picks_at-clause-best : goal.returns-then-picks_at-clause-best
returns-then-picks_at-clause-best g c =
    sym (any_picked g.T.Ordered.order (g.C.Choice.rank c.args.choice.now) (g.C.Choice.picks c.args.choice.now) c.args.slots.now c.args.chain.now c.requires
    (get_or c.args.chain.now c.loop-at.at-index 0) (sym c.picks_at.ensures ∙ c.if-picks_at.true))

pub returns-clause-best : goal.returns-clause-best
returns-clause-best g c =
    sym (none_picked g.T.Ordered.order (g.C.Choice.rank c.args.choice.now) (g.C.Choice.picks c.args.choice.now) c.args.slots.now c.args.chain.now c.requires
    (subst (λ (xs : List ℕ). NonePicked g.T.Ordered.order (g.C.Choice.rank c.args.choice.now) (g.C.Choice.picks c.args.choice.now) c.args.slots.now xs) (take_all c.loop-at.at-index c.args.chain.now (omega arith)) c.loop-at.invariant))

pub returns-clause-none : goal.returns-clause-none
returns-clause-none g c = λ no.
    none_found g.T.Ordered.order (g.C.Choice.rank c.args.choice.now) (g.C.Choice.picks c.args.choice.now) c.args.slots.now c.args.chain.now c.requires
    (subst (λ (xs : List ℕ). NonePicked g.T.Ordered.order (g.C.Choice.rank c.args.choice.now) (g.C.Choice.picks c.args.choice.now) c.args.slots.now xs) (take_all c.loop-at.at-index c.args.chain.now (omega arith)) c.loop-at.invariant)
