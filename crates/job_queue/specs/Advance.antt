-- How a job goes on from one phase to another.
use Rattle.std.specs.Prelude.{if◌then◌else◌, List, [], ◌∷◌, find, Option}
use Rattle.mas_types.specs.declared.ids.MemberId.{MemberId}
use Rattle.mas_types.specs.declared.ids.JobNo.{JobNo}
use Rattle.mas_types.specs.declared.jobs.Phase.{Phase}
use Rattle.mas_types.specs.declared.jobs.Phase.TheVariants as phase
use Rattle.mas_types.specs.declared.jobs.Job.{Job}
use Rattle.mas_types.specs.declared.commands.Refusal.{Refusal}
use Rattle.mas_types.specs.declared.commands.Refusal.TheVariants as refusal
use Rattle.mas_types.specs.Lists.{first_some}
use Rattle.mas_types.specs.Ids.{nobody}
use Rattle.mas_types.specs.Queue.{has_number}
use Rattle.mas_types.specs.Row.{none_such, wrong_phase, job_not_at}
use Rattle.job_queue.specs.Jobs.{in_phase}

-- the job when its work is done: busy no longer, and in the phase, or in Purge if it is cancelled
abbrev pub advanced : Phase → Job → Job
advanced to j = record j { phase = if j.cancelled then phase.Purge else to; busy = nobody }

-- the first refusal of a member that advances a job from a phase
abbrev pub not_advanced : MemberId → Phase → Option Job → Option Refusal
not_advanced m from found = first_some
    (none_such refusal.NoJob found ∷ wrong_phase (in_phase from) found ∷ job_not_at m found ∷ [])

-- the refusal of the job of that number among the jobs
abbrev pub refusal_of : MemberId → JobNo → Phase → List Job → Option Refusal
refusal_of m n from jobs = not_advanced m from (find (has_number n) jobs)
