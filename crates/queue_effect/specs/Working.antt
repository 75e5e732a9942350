-- Who may go on with a job.
use Rattle.std.specs.Prelude.{Bool, List, [], ◌∷◌, Option}
use Rattle.mas_types.specs.declared.ids.MemberId.{MemberId}
use Rattle.mas_types.specs.declared.ids.JobNo.{JobNo}
use Rattle.mas_types.specs.declared.jobs.Phase.{Phase}
use Rattle.mas_types.specs.declared.queues.Queue.{Queue}
use Rattle.mas_types.specs.declared.commands.Refusal.{Refusal}
use Rattle.mas_types.specs.declared.commands.Refusal.TheVariants as refusal
use Rattle.mas_types.specs.Queue.{job_at, in_input, in_convert}
use Rattle.mas_types.specs.Commands.Life.{runs}
use Rattle.mas_types.specs.Row.{none_such, wrong_phase, job_not_at}
use Rattle.queue_effect.specs.declared.working.Stage.{Stage}
use Rattle.queue_effect.specs.declared.working.Stage.TheVariants as stage

-- the phases of a stage
abbrev pub in_stage : Stage → Phase → Bool
in_stage stage.Input = in_input
in_stage stage.Convert = in_convert
in_stage stage.Run = runs

-- the refusals of a job that has to be in a phase and busy at the member
abbrev pub not_at_work : Queue → MemberId → JobNo → (Phase → Bool) → List (Option Refusal)
not_at_work Q m n right = none_such refusal.NoJob (job_at Q n) ∷ wrong_phase right (job_at Q n)
    ∷ job_not_at m (job_at Q n) ∷ []
