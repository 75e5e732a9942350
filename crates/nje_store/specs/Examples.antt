-- Worked examples.
use Rattle.std.specs.Prelude.{◌≡◌, ℕ, true, false, List, [], ◌∷◌, codes, Some, None}
use Rattle.mas_types.specs.declared.jobs.Job.{Job}
use Rattle.mas_types.specs.declared.jobs.JobFields.{JobFields}
use Rattle.mas_types.specs.declared.jobs.Text.{Text}
use Rattle.mas_types.specs.declared.jobs.Text.TheVariants.{Whole, Gone}
use Rattle.mas_types.specs.declared.jobs.Phase.TheVariants as phase
use Rattle.mas_types.specs.declared.ids.Name8.{Name8}
use Rattle.nje_frames.specs.declared.frames.Frame.TheVariants as frame
use Rattle.nje_store.specs.declared.custody.Custody.TheVariants.{Next, Again, Gap}
use Rattle.nje_store.specs.declared.wire.WireEvent.{WireEvent}
use Rattle.nje_store.specs.declared.wire.WireEvent.TheVariants.{Load, Give, Frame, Ack}
use Rattle.nje_store.specs.Custody.{custody_of, job_frame}
use Rattle.nje_store.specs.Wire.{quiet, run, all_got}

abbrev pub one_text : List (List ℕ)
one_text = codes "//A JOB" ∷ []

abbrev pub other_text : List (List ℕ)
other_text = codes "//B JOB" ∷ []

-- the first job's frame comes twice, and its acknowledgement twice; the second job waits for the first to leave
abbrev pub schedule : List WireEvent
schedule =
    Load one_text ∷ Give ∷ Frame 1 ∷ Load other_text ∷ Frame 1 ∷ Ack 2
    ∷ Load other_text ∷ Give ∷ Ack 1 ∷ Frame 2 ∷ Frame 1 ∷ []

abbrev pub here : Name8
here = record { 0 = codes "HERE    " }

abbrev pub far : Name8
far = record { 0 = codes "FAR     " }

abbrev pub fields : JobFields
fields = record {
  name = record { 0 = codes "A       " };
  class = record { 0 = 65 };
  msgclass = record { 0 = 65 };
  prio = record { 0 = 5 };
  held = false;
  scan = false;
  restart = true;
  dest = record { 0 = codes "LOCAL   " };
  node = far;
  origin = here;
}

-- a job from node HERE to node FAR, with that text
abbrev pub waiting_job : Text → Job
waiting_job text = record {
  number = record { 0 = 7 };
  fields = fields;
  phase = phase.Xmit;
  cancelled = false;
  busy = record { 0 = 0 };
  text = text;
}

pub record AreAsWorked : Type 0 where
  pub next : custody_of 0 1 ≡ Next
  pub again : custody_of 1 1 ≡ Again 1
  pub gap : custody_of 1 3 ≡ Gap 3 1
  pub frame : job_frame (waiting_job (Whole one_text)) 1 ≡ Some (frame.Job 1 here far one_text)
  pub gone : job_frame (waiting_job (Gone (record { 0 = 3 }) 1)) 1 ≡ None
  pub kept : (run quiet schedule).kept ≡ one_text ∷ other_text ∷ []
  pub got : all_got quiet schedule ≡ 1 ∷ 2 ∷ []
  pub sent : (run quiet schedule).sent ≡ 1
  pub busy : (run quiet schedule).busy ≡ true
  pub acks : (run quiet schedule).acks ≡ 1 ∷ 1 ∷ 2 ∷ 1 ∷ []
