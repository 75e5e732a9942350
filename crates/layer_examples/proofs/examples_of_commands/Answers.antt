use Rattle.std.proofs.Common.{refl}
use Rattle.std.specs.Fmt.{digits}
use Rattle.layer_examples.specs.Commands.{CommandsAreAnswered}
use Rattle.layer_examples.proofs.examples_of_commands.Goals as goal

computed : CommandsAreAnswered
unfolding digits
computed = record {
  life = refl;
  refusals = refl;
  numbers = refl;
  full = refl;
  groups = refl;
}

pub returns : goal.returns
returns c = computed
