use Rattle.run_turns.proofs.Computed.{copy_is_not_replaced, copy_is_replaced, replaced_under_lock}
use Rattle.run_turns.proofs.examples.examples_of_replacing.Goals as goal

pub returns : goal.returns
returns c = record { replaced = copy_is_replaced; refused = copy_is_not_replaced; lock = replaced_under_lock }
