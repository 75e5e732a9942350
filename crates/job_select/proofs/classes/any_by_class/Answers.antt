use Rattle.std.proofs.Common.{◌≡◌, sym, ap, ◌∙◌, get_or, arith}
use Rattle.std.specs.Prelude.{is_some}
use Rattle.std.proofs.lemmas.List.{drop_all}
use Rattle.queue_slots.specs.Listed.{listed}
use Rattle.job_select.specs.Chains.{has_slot}
use Rattle.job_select.proofs.KeyLemmas.{keys_more, keys_over, any_by_key}
use Rattle.job_select.proofs.classes.any_by_class.Goals as goal

pub any_in-any-requires : goal.any_in-any-requires
any_in-any-requires g c = λ j y there picked.
    ap (has_slot j) c.slots_in.ensures ∙ c.requires (get_or c.as_slice-class-items.result.now c.loop-class.class-index (record { 0 = 0 })) j y there picked

pub loop-class-preserved : goal.loop-class-preserved
loop-class-preserved g c =
    keys_more (g.C.Classed.has_class c.args.choice.now) (g.C.Choice.picks c.args.choice.now) (listed g.T.Ordered.order c.args.slots.now)
    c.as_slice-class-items.result.now c.loop-class.class-index (record { 0 = 0 }) c.loop-class-test.true
    (c.any_in-any.ensures.none c.if-any.false) c.loop-class.invariant

pub returns : goal.returns
returns g c =
    let same : c.as_slice-class-items.result.now ≡ c.args.classes.now = c.as_slice-class-items.ensures in
    rw (← same) (sym (ap is_some (keys_over (g.C.Classed.has_class c.args.choice.now) (g.C.Choice.picks c.args.choice.now) (listed g.T.Ordered.order c.args.slots.now)
    (g.C.Choice.rank c.args.choice.now) c.as_slice-class-items.result.now c.loop-class.class-index (drop_all c.loop-class.class-index c.as_slice-class-items.result.now (omega arith)) c.loop-class.invariant)))

pub returns-then-any : goal.returns-then-any
returns-then-any g c =
    let same : c.as_slice-class-items.result.now ≡ c.args.classes.now = c.as_slice-class-items.ensures in
    rw (← same) (sym (any_by_key (g.C.Classed.has_class c.args.choice.now) (g.C.Choice.picks c.args.choice.now) (listed g.T.Ordered.order c.args.slots.now)
    c.as_slice-class-items.result.now c.loop-class.class-index (record { 0 = 0 }) c.loop-class-test.true
    (g.C.Choice.rank c.args.choice.now) c.loop-class.invariant (sym c.any_in-any.ensures.best ∙ c.if-any.true)))
