use Rattle.member_work.proofs.Names.{refl}
use Rattle.std.specs.Fmt.{digits}
use Rattle.member_work.proofs.examples.examples_of_work_steps.Goals as goal

pub returns : goal.returns
unfolding digits
returns c = record {
  null = (refl, refl, refl);
  hold = refl;
  copy = (refl, refl, refl);
  waits = (refl, refl, refl);
  lines = (refl, refl);
  printer = (refl, refl, refl);
  error = (refl, refl);
  scan = refl;
  first = (refl, refl);
  reset = (refl, refl);
  full = (refl, refl, refl);
  outputs = (refl, refl);
  lost = (refl, refl);
  unread = (refl, refl);
  gone = (refl, refl, refl);
  cancelled = (refl, refl);
}
