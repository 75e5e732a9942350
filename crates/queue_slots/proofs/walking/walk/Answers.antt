use Rattle.std.proofs.Common.{sym, ap, ◌∙◌, Some}
use Rattle.std.proofs.lemmas.Option.{slice_get-get_or}
use Rattle.queue_slots.proofs.BestSlots.{best_more}
use Rattle.queue_slots.proofs.walking.walk.Goals as goal

pub loop-at-preserved : goal.loop-at-preserved
loop-at-preserved g c =
    let slots = c.args.slots.now in
    rw c.note_slot.ensures
    (best_more g.T.Ordered.order (g.P.Weigh.key c.args.test.now) (g.P.Weigh.rank c.args.test.now) (g.P.Weigh.weighs c.args.test.now) slots c.loop-at.at c.index-slots-at.result c.loop-at.best
    (slice_get-get_or slots c.loop-at.at c.index-slots-at.result c.loop-at-test.true ∙ ap Some (sym c.index-slots-at.is)) c.loop-at.invariant)
