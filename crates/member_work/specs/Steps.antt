-- The job that a member goes on with.
use Rattle.member_work.specs.Names.{JobNo, MemberId, Job, Queue, runs as in_phases, IsJobFields, text_lines_most, has_output, job_at, line_count, Tables, Tell}
use Rattle.std.specs.Prelude.{◌≡◌, ◌≤◌, true, false, Some}
use Rattle.lay_bytes.specs.declared.records.JobRec.{JobRec}

-- the job with this number is in Convert or Execute, busy at the member, and has no output
pub record IsUnderWay (Q : Queue) (by : MemberId) (n : JobNo) : Type 0 where
  pub job : Job
  pub there : job_at Q n ≡ Some job
  pub busy : job.busy ≡ by
  pub phase : in_phases job.phase ≡ true
  pub none : has_output n Q ≡ false

-- the record of a job says what each queue has of it that the tables tell
pub record IsTold (t : Tables) (r : JobRec) : Type 0 where
  pub fields : IsJobFields r.fields
  pub few : r.cards ≤ text_lines_most
  pub same : (Q : Queue) (j : Job) → Tell t Q → job_at Q r.number ≡ Some j → (j.number ≡ r.number)
      × (j.fields ≡ r.fields) × (line_count j.text ≡ r.cards)
