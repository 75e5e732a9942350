use Rattle.std.proofs.Common.{sym, ◌∙◌}
use Rattle.model_queue.proofs.Listed.{without-first, without-none}
use Rattle.model_queue.proofs.Places.{nothing}
use Rattle.model_queue.proofs.picking.remove_each.Goals as goal

pub loop-at-preserved : goal.loop-at-preserved
loop-at-preserved g c = rw (c.remove.ensures.rest, ← c.in-Some.ensures.some.removed) (without-first (g.P.Picks.picks c.args.test.now) c.loop-at.items ∙ c.loop-at.invariant)

pub returns : goal.returns
returns g c = sym (without-none (g.P.Picks.picks c.args.test.now) c.loop-at.items (nothing c.first_place.result c.in_default.is c.first_place.ensures.none)) ∙ c.loop-at.invariant
