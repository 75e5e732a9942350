use Rattle.queue_effect.proofs.Marking.{outputs_touched}
use Rattle.std.proofs.lemmas.List.{length-map}
use Rattle.lay_bytes.specs.declared.records.OutRec.{OutRec}
use Rattle.queue_resets.specs.Resets.{is_one_of, output_reset}
use Rattle.queue_resets.specs.Resets.{changed_where}
use Rattle.queue_effect.specs.Standing.{IsFitOutput}
use Rattle.std.proofs.Common.{Bool, map, refl}
use Rattle.queue_effect.proofs.FitLemmas.{outputs_fit, used_changed, reset_output_fit, refill_map}
use Rattle.queue_effect.proofs.OrderLemmas.{outputs_changed_orders}
use Rattle.queue_effect.proofs.members.reset_outputs.Goals as goal

pub returns-clause-fit : goal.returns-clause-fit
returns-clause-fit c = λ fit.
    let t = c.args.tables.now in
    let f = changed_where (λ (r : OutRec). is_one_of c.args.who r.busy) output_reset in
    rw (refill_map t.outputs c.reset_output_slots.new.slots f (rw c.as_mut_slice.ensures.value at c.reset_output_slots.ensures))
    (outputs_fit t fit (map f t.outputs) (length-map t.outputs f) (used_changed (IsFitOutput t.order) (λ (r : OutRec). is_one_of c.args.who r.busy) output_reset (reset_output_fit t.order) t.outputs fit.outputs))

pub returns-clause-orders : goal.returns-clause-orders
returns-clause-orders c = λ had.
    let t = c.args.tables.now in
    let test : OutRec → Bool = λ r. is_one_of c.args.who r.busy in
    rw (refill_map t.outputs c.reset_output_slots.new.slots (changed_where test output_reset) (rw c.as_mut_slice.ensures.value at c.reset_output_slots.ensures)) (outputs_changed_orders t test output_reset (λ r. refl) had)

pub returns-clause-touches : goal.returns-clause-touches
returns-clause-touches c fit = outputs_touched c.args.marks.now.pages c.put_outputs.new.self.pages c.args.marks.now.many c.args.tables.now fit _ c.put_outputs.ensures
