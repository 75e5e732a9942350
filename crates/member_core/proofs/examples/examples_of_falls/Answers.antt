use Rattle.member_core.proofs.Computed.{old_gate_drops, new_gate_keeps, start_keeps_what_a_copy_reads, unsure_gate_falls_back}
use Rattle.member_core.proofs.examples.examples_of_falls.Goals as goal

pub returns : goal.returns
returns c = record {
  old_gate = old_gate_drops;
  new_gate = new_gate_keeps;
  start = start_keeps_what_a_copy_reads;
  unsure_gate = unsure_gate_falls_back;
}
