use Rattle.std.proofs.Common.{◌∙◌, ◌∷◌, [], ◌++◌, sym, ap}
use Rattle.warm_start.proofs.Orders.{used_with, used_without}
use Rattle.warm_start.proofs.queues.used_slots.Goals as goal
use Rattle.warm_start.proofs.queues.used_slots.Goals.{in-Some+in_ok-push-in-Some, in-None}

pub loop-slot-preserved : goal.loop-slot-preserved
loop-slot-preserved g c =
    let slots = c.args.slots.now in
    let i = c.loop-slot.slot-index in
    elim c.match-slot.branch [
      | in-Some+in_ok-push-in-Some w ↦
          ap (λ r. r.items) w.records-is ∙ w.in_ok-push-in-Some.ensures.items ∙ ap (λ xs. xs ++ w.in-Some.record ∷ []) c.loop-slot.invariant
          ∙ sym (used_with slots i w.in-Some.record c.loop-slot-test.true (sym (rw w.in-Some.is at c.slot-item.is)))
      | in-None w ↦
          ap (λ r. r.items) w.records-is ∙ c.loop-slot.invariant ∙ sym (used_without slots i c.loop-slot-test.true (sym (rw w.in-None.is at c.slot-item.is)))
    ]
