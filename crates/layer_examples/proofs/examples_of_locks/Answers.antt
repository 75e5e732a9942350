use Rattle.std.proofs.Common.{refl}
use Rattle.layer_examples.specs.Locks.{StopsAreTakenOver}
use Rattle.layer_examples.proofs.examples_of_locks.Goals as goal

computed : StopsAreTakenOver
computed = record {
  one_left = refl;
  granted_again = refl;
  none_left = refl;
  is_up = refl;
  is_down = refl;
  holds_still = refl;
  may_not_try = refl;
  is_busy = refl;
  may_be_seized = refl;
  holder = refl;
  whole_hold = refl;
  seized_once = refl;
}

pub returns : goal.returns
returns c = computed
