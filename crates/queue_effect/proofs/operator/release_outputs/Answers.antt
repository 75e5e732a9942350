use Rattle.std.proofs.lemmas.List.{length-map}
use Rattle.std.proofs.Common.{Bool, map, ◌&&◌, refl}
use Rattle.std.specs.Prelude.{false}
use Rattle.mas_types.specs.Ids.{same_number}
use Rattle.lay_bytes.specs.declared.records.OutRec.{OutRec}
use Rattle.queue_resets.specs.Resets.{changed_where}
use Rattle.queue_effect.specs.Standing.{IsFitOutput}
use Rattle.queue_effect.proofs.Changing.{outputs_released}
use Rattle.queue_effect.proofs.FitLemmas.{outputs_fit, used_changed, refill_map}
use Rattle.queue_effect.proofs.OrderLemmas.{outputs_changed_orders}
use Rattle.queue_effect.proofs.Marking.{outputs_touched}
use Rattle.queue_effect.proofs.operator.release_outputs.Goals as goal

pub returns-clause-stands : goal.returns-clause-stands
returns-clause-stands c = λ Q stands.
    let t = c.args.tables.now in
    let f = changed_where (λ (r : OutRec). same_number r.job c.args.job && r.held) (λ (r : OutRec). record r { held = false }) in
    rw (refill_map t.outputs c.release_slots.new.outputs f (rw c.as_mut_slice.ensures.value at c.release_slots.ensures)) (outputs_released t Q c.args.job stands)

pub returns-clause-fit : goal.returns-clause-fit
returns-clause-fit c = λ fit.
    let t = c.args.tables.now in
    let f = changed_where (λ (r : OutRec). same_number r.job c.args.job && r.held) (λ (r : OutRec). record r { held = false }) in
    rw (refill_map t.outputs c.release_slots.new.outputs f (rw c.as_mut_slice.ensures.value at c.release_slots.ensures))
    (outputs_fit t fit (map f t.outputs) (length-map t.outputs f)
    (used_changed (IsFitOutput t.order) (λ (r : OutRec). same_number r.job c.args.job && r.held) (λ (r : OutRec). record r { held = false }) (λ r h. record { below = h.below; busy = h.busy }) t.outputs fit.outputs))

pub returns-clause-orders : goal.returns-clause-orders
returns-clause-orders c = λ had.
    let t = c.args.tables.now in
    let test : OutRec → Bool = λ r. same_number r.job c.args.job && r.held in
    let free : OutRec → OutRec = λ r. record r { held = false } in
    rw (refill_map t.outputs c.release_slots.new.outputs (changed_where test free) (rw c.as_mut_slice.ensures.value at c.release_slots.ensures)) (outputs_changed_orders t test free (λ r. refl) had)

pub returns-clause-touches : goal.returns-clause-touches
returns-clause-touches c fit = outputs_touched c.args.marks.now.pages _ c.args.marks.now.many c.args.tables.now fit _ c.put_outputs.ensures
