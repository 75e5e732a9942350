use Rattle.std.proofs.Common.{◌≡◌, sym, ◌∙◌, arith}
use Rattle.std.proofs.lemmas.List.{drop_all}
use Rattle.model_queue.proofs.Best.{keys_more, key_found, keys_over, some_by, none_by}
use Rattle.model_queue.proofs.picking.best_place_by_class.Goals as goal

pub loop-class-preserved : goal.loop-class-preserved
loop-class-preserved g c =
    keys_more (g.P.Classed.has_class c.args.test.now) (g.P.Picks.picks c.args.test.now) c.args.items.now c.as_slice-class-items.result.now c.loop-class.class-index (record { 0 = 0 }) c.loop-class-test.true
    (sym c.is_any.ensures ∙ c.if-is_any.false) c.loop-class.invariant

pub returns-then-is_any-clause-some : goal.returns-then-is_any-clause-some
returns-then-is_any-clause-some g c =
    let same : c.as_slice-class-items.result.now ≡ c.args.classes.now = c.as_slice-class-items.ensures in
    rw (← same) (some_by (g.P.Ranks.rank c.args.test.now) c.args.items.now _ _
    (key_found (g.P.Classed.has_class c.args.test.now) (g.P.Picks.picks c.args.test.now) c.args.items.now c.as_slice-class-items.result.now c.loop-class.class-index (record { 0 = 0 }) c.loop-class-test.true
    (sym c.is_any.ensures ∙ c.if-is_any.true) c.loop-class.invariant) c.best_place.result c.best_place.ensures.some)

pub returns-then-is_any-clause-none : goal.returns-then-is_any-clause-none
returns-then-is_any-clause-none g c =
    let same : c.as_slice-class-items.result.now ≡ c.args.classes.now = c.as_slice-class-items.ensures in
    rw (← same) (none_by (g.P.Ranks.rank c.args.test.now) c.args.items.now _ _
    (key_found (g.P.Classed.has_class c.args.test.now) (g.P.Picks.picks c.args.test.now) c.args.items.now c.as_slice-class-items.result.now c.loop-class.class-index (record { 0 = 0 }) c.loop-class-test.true
    (sym c.is_any.ensures ∙ c.if-is_any.true) c.loop-class.invariant) c.best_place.result c.best_place.ensures.none)

pub returns-clause-none : goal.returns-clause-none
returns-clause-none g c =
    let same : c.as_slice-class-items.result.now ≡ c.args.classes.now = c.as_slice-class-items.ensures in
    rw (← same) (keys_over (g.P.Classed.has_class c.args.test.now) (g.P.Picks.picks c.args.test.now) c.args.items.now (g.P.Ranks.rank c.args.test.now)
    c.as_slice-class-items.result.now c.loop-class.class-index (drop_all c.loop-class.class-index c.as_slice-class-items.result.now (omega arith)) c.loop-class.invariant)
