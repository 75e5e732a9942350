use Rattle.std.proofs.Common.{refl}
use Rattle.std.specs.Fmt.{digits}
use Rattle.layer_examples.specs.Faults.{JobFaultsAreFound, OtherFaultsAreFound}
use Rattle.layer_examples.proofs.examples_of_faults.Goals as goal

are_jobs : JobFaultsAreFound
unfolding digits
are_jobs = record {
  no_job = refl;
  busy = refl;
  no_member = refl;
  busy_in_purge = refl;
  cards_in_input = refl;
  cards_without_group = refl;
  last_order = refl;
  order_above = refl;
  number_twice = refl;
  order_twice = refl;
  two = refl;
}

are_others : OtherFaultsAreFound
unfolding digits
are_others = record {
  whole_mark = refl;
  mark_above = refl;
  order_twice = refl;
  lines_without_group = refl;
  job_without_outputs = refl;
  no_output = refl;
  no_job = refl;
  job_in_input = refl;
  no_member = refl;
  place_twice = refl;
  place_left_out = refl;
  other_order = refl;
}

pub returns : goal.returns
returns c = record {
  jobs = are_jobs;
  others = are_others;
}
