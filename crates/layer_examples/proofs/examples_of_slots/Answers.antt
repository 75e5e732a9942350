use Rattle.std.proofs.Common.{refl}
use Rattle.std.specs.Fmt.{digits}
use Rattle.layer_examples.specs.Slots.{SlotsAreSpelled, DamageIsFound}
use Rattle.layer_examples.proofs.examples_of_slots.Goals as goal

are_spelled : SlotsAreSpelled
unfolding digits
are_spelled = record {
  first_job = refl;
  other_job = refl;
  no_job = refl;
  output = refl;
  no_output = refl;
  owners = refl;
  numbers = refl;
  read_number = refl;
  setting = refl;
  node = refl;
  header = refl;
  pages = refl;
}

are_damaged : DamageIsFound
unfolding digits
are_damaged = record {
  phase = refl;
  bytes = refl;
  number = refl;
  names = refl;
  zeros = refl;
  output = refl;
  free = refl;
  member = refl;
  deck = refl;
  others = refl;
}

pub returns : goal.returns
returns c = record {
  spelled = are_spelled;
  damaged = are_damaged;
}
