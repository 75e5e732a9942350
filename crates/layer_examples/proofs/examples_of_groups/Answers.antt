use Rattle.std.proofs.Common.{refl}
use Rattle.std.specs.Fmt.{digits}
use Rattle.layer_examples.specs.Groups.{GroupsAreGiven}
use Rattle.layer_examples.proofs.examples_of_groups.Goals as goal

computed : GroupsAreGiven
unfolding digits
computed = record {
  none = refl;
  two = refl;
  three = refl;
  most = refl;
  room = refl;
  next = refl;
  full = refl;
  given_away = refl;
  left = refl;
  count = refl;
  freed_again = refl;
  all_but_one = refl;
  in_order = refl;
  no_text = refl;
}

pub returns : goal.returns
returns c = computed
