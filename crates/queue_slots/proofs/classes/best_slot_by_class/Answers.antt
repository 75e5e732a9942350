use Rattle.std.proofs.Common.{◌≡◌}
use Rattle.queue_slots.proofs.Keys.{keyed_some, keyed_none}
use Rattle.queue_slots.proofs.classes.best_slot_by_class.Goals as goal

pub returns-clause-some : goal.returns-clause-some
returns-clause-some g c =
    let same : c.as_slice.result.now ≡ c.args.classes.now = c.as_slice.ensures in
    rw c.found_at.ensures (keyed_some g.T.Ordered.order (g.P.Rank.rank c.args.test.now) (g.P.Classed.class c.args.test.now) (g.P.Test.picks c.args.test.now) c.args.classes.now c.class_keys.result
    (rw same at c.class_keys.ensures) c.args.slots.now c.walk-best.result c.walk-best.ensures)

pub returns-clause-none : goal.returns-clause-none
returns-clause-none g c =
    let same : c.as_slice.result.now ≡ c.args.classes.now = c.as_slice.ensures in
    rw c.found_at.ensures (keyed_none g.T.Ordered.order (g.P.Rank.rank c.args.test.now) (g.P.Classed.class c.args.test.now) (g.P.Test.picks c.args.test.now) c.args.classes.now c.class_keys.result
    (rw same at c.class_keys.ensures) c.args.slots.now c.walk-best.result c.walk-best.ensures)
