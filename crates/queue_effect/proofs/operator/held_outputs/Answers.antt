use Rattle.std.proofs.Common.{◌&&◌, ◌∙◌}
use Rattle.mas_types.specs.Ids.{same_number}
use Rattle.lay_bytes.specs.declared.records.OutRec.{OutRec}
use Rattle.output_queue.specs.Outputs.{order_of, unordered, rec_of}
use Rattle.queue_effect.proofs.SlotLemmas.{counted_told}
use Rattle.queue_effect.proofs.operator.held_outputs.Goals as goal

pub returns : goal.returns
returns c = λ Q stands.
    (rw c.as_slice.ensures at c.held_count.ensures) ∙ counted_told order_of unordered rec_of (λ (r : OutRec). same_number r.job c.args.job && r.held) c.args.tables.now.outputs Q.outputs stands.outputs
