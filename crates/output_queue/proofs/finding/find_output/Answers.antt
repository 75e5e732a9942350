use Rattle.std.proofs.Common.{◌&&◌}
use Rattle.mas_types.specs.Ids.{same_number, same_index}
use Rattle.queue_slots.proofs.Founds.{found_here, first_told, none_told}
use Rattle.lay_bytes.specs.declared.records.OutRec.{OutRec}
use Rattle.output_queue.specs.Outputs.{order_of, unordered, rec_of}
use Rattle.output_queue.proofs.finding.find_output.Goals as goal

pub returns-clause-here : goal.returns-clause-here
returns-clause-here c = found_here order_of (λ (r : OutRec). same_number r.job c.args.job && same_index r.index c.args.index) c.args.outputs.now c.first_slot.result c.first_slot.ensures.some

pub returns-clause-some : goal.returns-clause-some
returns-clause-some c = first_told order_of unordered rec_of c.args.outputs.now c.first_slot.result (λ (r : OutRec). same_number r.job c.args.job && same_index r.index c.args.index) c.first_slot.ensures.some

pub returns-clause-none : goal.returns-clause-none
returns-clause-none c = none_told order_of unordered rec_of c.args.outputs.now c.first_slot.result (λ (r : OutRec). same_number r.job c.args.job && same_index r.index c.args.index) c.first_slot.ensures.none
