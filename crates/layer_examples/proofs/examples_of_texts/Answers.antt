use Rattle.std.proofs.Common.{refl}
use Rattle.std.specs.Fmt.{digits}
use Rattle.layer_examples.specs.Texts.{TextsAreRead}
use Rattle.layer_examples.proofs.examples_of_texts.Goals as goal

computed : TextsAreRead
unfolding digits
computed = record {
  names = refl;
  padding = refl;
  classes = refl;
  numbers = refl;
  keys = refl;
  members = refl;
  operator = refl;
  dormant = refl;
  statuses = refl;
  bytes = refl;
  limits = refl;
  queue = refl;
  node = refl;
  setting = refl;
  lines = refl;
}

pub returns : goal.returns
returns c = computed
