-- A job that has its text.
use Rattle.std.specs.Prelude.{ℕ, List}
use Rattle.mas_types.specs.declared.ids.Name8.{Name8}
use Rattle.mas_types.specs.declared.jobs.Text.TheVariants.{Whole}
use Rattle.mas_types.specs.declared.jobs.Job.{Job}
use Rattle.mas_types.specs.Ids.{nobody}
use Rattle.mas_types.specs.Commands.Input.{phase_entered}

-- the job with its text, free of its member, where it goes next
abbrev pub entered_job : Name8 → List (List ℕ) → Job → Job
entered_job own text j = record j { text = Whole text; busy = nobody; phase = phase_entered own j }
