use Rattle.std.proofs.Common.{◌≡◌, refl, sym, ap, ◌∙◌, get_or, arith}
use Rattle.std.proofs.lemmas.List.{drop_all}
use Rattle.queue_slots.specs.Listed.{listed}
use Rattle.job_select.specs.Chains.{has_slot}
use Rattle.job_select.proofs.KeyLemmas.{keys_more, keys_over, found_by_key, not_found}
use Rattle.job_select.proofs.classes.best_by_class.Goals as goal

pub best_in-best-requires : goal.best_in-best-requires
best_in-best-requires g c = λ j y there picked.
    ap (has_slot j) c.slots_in.ensures ∙ c.requires (get_or c.as_slice-class-items.result.now c.loop-class.class-index (record { 0 = 0 })) j y there picked

pub loop-class-preserved : goal.loop-class-preserved
loop-class-preserved g c =
    keys_more (g.C.Classed.has_class c.args.choice.now) (g.C.Choice.picks c.args.choice.now) (listed g.T.Ordered.order c.args.slots.now)
    c.as_slice-class-items.result.now c.loop-class.class-index (record { 0 = 0 }) c.loop-class-test.true
    (not_found c.best_in-best.result (sym c.is_some.ensures ∙ c.if-is_some.false) c.best_in-best.ensures.none_picked) c.loop-class.invariant

pub returns-clause-none : goal.returns-clause-none
returns-clause-none g c =
    let same : c.as_slice-class-items.result.now ≡ c.args.classes.now = c.as_slice-class-items.ensures in
    rw (← same) (keys_over (g.C.Classed.has_class c.args.choice.now) (g.C.Choice.picks c.args.choice.now) (listed g.T.Ordered.order c.args.slots.now)
    (g.C.Choice.rank c.args.choice.now) c.as_slice-class-items.result.now c.loop-class.class-index (drop_all c.loop-class.class-index c.as_slice-class-items.result.now (omega arith)) c.loop-class.invariant)

pub returns-then-is_some-clause-some : goal.returns-then-is_some-clause-some
returns-then-is_some-clause-some g c =
    let same : c.as_slice-class-items.result.now ≡ c.args.classes.now = c.as_slice-class-items.ensures in
    rw (← same) (found_by_key (g.C.Classed.has_class c.args.choice.now) (g.C.Choice.picks c.args.choice.now) (listed g.T.Ordered.order c.args.slots.now)
    c.as_slice-class-items.result.now c.loop-class.class-index (record { 0 = 0 }) c.loop-class-test.true
    g.T.Ordered.order (g.C.Choice.rank c.args.choice.now) c.args.slots.now refl c.loop-class.invariant c.best_in-best.result c.best_in-best.ensures.some)
