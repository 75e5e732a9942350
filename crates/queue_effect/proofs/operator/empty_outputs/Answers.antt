use Rattle.std.proofs.lemmas.List.{length-map}
use Rattle.std.proofs.Common.{Bool, map}
use Rattle.mas_types.specs.Ids.{same_number}
use Rattle.lay_bytes.specs.declared.records.OutRec.{OutRec}
use Rattle.queue_effect.specs.Slots.{emptied_where}
use Rattle.queue_effect.specs.Standing.{IsFitOutput}
use Rattle.queue_effect.proofs.FitLemmas.{outputs_fit, used_emptied, refill_map}
use Rattle.queue_effect.proofs.OrderLemmas.{outputs_emptied_orders}
use Rattle.queue_effect.proofs.Marking.{outputs_touched}
use Rattle.queue_effect.proofs.operator.empty_outputs.Goals as goal

pub returns-clause-fit : goal.returns-clause-fit
returns-clause-fit c = λ fit.
    let t = c.args.tables.now in
    let f = emptied_where (λ (r : OutRec). same_number r.job c.args.job) in
    rw (refill_map t.outputs c.empty_slots.new.outputs f (rw c.as_mut_slice.ensures.value at c.empty_slots.ensures))
    (outputs_fit t fit (map f t.outputs) (length-map t.outputs f) (used_emptied (IsFitOutput t.order) (λ (r : OutRec). same_number r.job c.args.job) t.outputs fit.outputs))

pub returns-clause-orders : goal.returns-clause-orders
returns-clause-orders c = λ had.
    let t = c.args.tables.now in
    let test : OutRec → Bool = λ r. same_number r.job c.args.job in
    rw (refill_map t.outputs c.empty_slots.new.outputs (emptied_where test) (rw c.as_mut_slice.ensures.value at c.empty_slots.ensures)) (outputs_emptied_orders t test had)

pub returns-clause-touches : goal.returns-clause-touches
returns-clause-touches c fit = outputs_touched c.args.marks.now.pages _ c.args.marks.now.many c.args.tables.now fit _ c.put_outputs.ensures
