use Rattle.queue_effect.proofs.displays.listed_outputs.Goals as goal

pub returns : goal.returns
returns c = rw c.in_ok-records.ensures at c.outputs_in_order.ensures
