use Rattle.std.proofs.Common.{sym, ◌∙◌, arith}
use Rattle.queue_slots.proofs.Changes.{length-used_more}
use Rattle.queue_slots.proofs.slots.used_count.Goals as goal
use Rattle.queue_slots.proofs.slots.used_count.Goals.{then-is_some, else-is_some}

pub loop-slot-preserved : goal.loop-slot-preserved
loop-slot-preserved g c =
    let more = length-used_more c.args.slots.now c.loop-slot.slot-index c.slot-item.result c.loop-slot-test.true c.slot-item.is in
    elim c.if-is_some.branch [
      | then-is_some w ↦ let one = rw (sym c.is_some.ensures ∙ w.if-is_some.true) at more in (omega arith, omega arith)
      | else-is_some w ↦ let none = rw (sym c.is_some.ensures ∙ w.if-is_some.false) at more in (omega arith, omega arith)
    ]
