use Rattle.member_core.proofs.Computed.{second_lock_waits, whole_turn_is_told, one_gate_tells_nothing, begun_batch_tells_nothing}
use Rattle.member_core.proofs.examples.examples_of_turns.Goals as goal

pub returns : goal.returns
returns c = record {
  second_lock = second_lock_waits;
  whole_turn = whole_turn_is_told;
  one_gate = one_gate_tells_nothing;
  begun_batch = begun_batch_tells_nothing;
}
