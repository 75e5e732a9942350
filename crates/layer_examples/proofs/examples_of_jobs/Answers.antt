use Rattle.std.proofs.Common.{refl}
use Rattle.std.specs.Fmt.{digits}
use Rattle.layer_examples.specs.Jobs.{WorkIsSelected}
use Rattle.layer_examples.proofs.examples_of_jobs.Goals as goal

computed : WorkIsSelected
unfolding digits
computed = record {
  by_order = refl;
  by_priority = refl;
  not_held = refl;
  none_waits = refl;
  no_class = refl;
  by_class = refl;
  first_executed = refl;
  none_purged = refl;
  of_class_b = refl;
  of_class_a = refl;
  other_forms = refl;
}

pub returns : goal.returns
returns c = computed
