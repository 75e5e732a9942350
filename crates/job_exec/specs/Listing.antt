-- The listing of a job that does not run.
use Rattle.std.specs.Prelude.{ℕ, false, List, [], ◌∷◌, codes}
use Rattle.mas_types.specs.declared.jobs.JobFields.{JobFields}
use Rattle.mas_types.specs.declared.jobs.OutSpec.{OutSpec}

-- one line, in the message class, with the job's print destination, forms STD, one copy, not held
abbrev pub listing_of : JobFields → List ℕ → OutSpec
listing_of job line = record {
  class = job.msgclass;
  dest = job.dest;
  forms = record { 0 = codes "STD     " };
  copies = 1;
  held = false;
  text = line ∷ [];
}
