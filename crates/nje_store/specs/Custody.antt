-- Who has custody of a job: what a receiver answers to a job's number, and the frame of a job.
use Rattle.std.specs.Prelude.{ℕ, ◌+◌, nat_le, nat_lt, if◌then◌else◌, [], ◌∷◌, Option, Some, None}
use Rattle.mas_types.specs.declared.commands.Refusal.{Refusal}
use Rattle.mas_types.specs.declared.commands.Refusal.TheVariants as refusal
use Rattle.mas_types.specs.declared.jobs.Job.{Job}
use Rattle.mas_types.specs.declared.jobs.Text.{Text}
use Rattle.mas_types.specs.declared.jobs.Text.TheVariants.{Whole, Gone}
use Rattle.mas_types.specs.Lists.{first_some}
use Rattle.mas_types.specs.Commands.Wire.{again, gap}
use Rattle.nje_frames.specs.declared.frames.Frame.{Frame}
use Rattle.nje_frames.specs.declared.frames.Frame.TheVariants as frame
use Rattle.nje_store.specs.declared.custody.Custody.{Custody}
use Rattle.nje_store.specs.declared.custody.Custody.TheVariants.{Next, Again, Gap}

-- the number was got before; it leaves one out; or it is the next
abbrev pub custody_of : ℕ → ℕ → Custody
custody_of kept number = if nat_le number kept then Again number else
    (if nat_lt (kept + 1) number then Gap number kept else Next)

-- the refusal with which Got meets a number of this custody
abbrev pub refusal_of : Custody → Option Refusal
refusal_of Next = None
refusal_of (Again number) = Some (refusal.Again number)
refusal_of (Gap number kept) = Some (refusal.Gap number kept)

-- the first of the conditions of Got on the number that holds
abbrev pub number_refusal : ℕ → ℕ → Option Refusal
number_refusal kept number = first_some (again kept number ∷ gap kept number ∷ [])

-- the frame of a job's text, if it isn't gone
abbrev pub frame_for : Job → ℕ → Text → Option Frame
frame_for job number (Whole lines) = Some (frame.Job number job.fields.origin job.fields.node lines)
frame_for job number (Gone group count) = None

abbrev pub job_frame : Job → ℕ → Option Frame
job_frame job number = frame_for job number job.text
