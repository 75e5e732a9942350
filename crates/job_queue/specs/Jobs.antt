-- What slots tell of a queue's jobs: all but their texts, of which they tell the numbers of lines.
use Rattle.std.specs.Prelude.{ℕ, Bool, false, List, Option}
use Rattle.mas_types.specs.declared.ids.MemberId.{MemberId}
use Rattle.mas_types.specs.declared.ids.JobNo.{JobNo}
use Rattle.mas_types.specs.declared.jobs.JobFields.{JobFields}
use Rattle.mas_types.specs.declared.jobs.Phase.{Phase}
use Rattle.mas_types.specs.declared.jobs.Phase.TheVariants as phase
use Rattle.mas_types.specs.declared.jobs.Job.{Job}
use Rattle.mas_types.specs.Queue.{in_input, in_convert, in_execute, in_output, in_hardcopy, in_purge, in_xmit, line_count}
use Rattle.lay_bytes.specs.declared.records.JobRec.{JobRec}
use Rattle.queue_slots.specs.Telling.{Tell, TellsFirst}

abbrev pub order_of : JobRec → ℕ
order_of r = r.order

-- a record without its order
abbrev pub unordered : JobRec → JobRec
unordered r = record r { order = 0 }

-- the record of a job, without an order
abbrev pub rec_of : Job → JobRec
rec_of j = record {
  number = j.number;
  fields = j.fields;
  phase = j.phase;
  cancelled = j.cancelled;
  busy = j.busy;
  cards
      = line_count j.text;
  order = 0;
}

-- the records by ascending order are those of the jobs
abbrev pub AreJobs : List (Option JobRec) → List Job → Type 0
AreJobs slots jobs = Tell order_of unordered rec_of slots jobs

-- a slot has the first of the jobs that the test picks; where the slot is written, that job is changed, and where it is
-- emptied, that job is gone
abbrev pub HasJob : (Job → Bool) → List (Option JobRec) → List Job → ℕ → JobRec → Type 0
HasJob test slots jobs at x = TellsFirst order_of unordered rec_of test slots jobs at x

-- the record of a new job
abbrev pub new_rec : MemberId → JobNo → JobFields → ℕ → JobRec
new_rec m n fields order = record
    { number = n; fields = fields; phase = phase.Input; cancelled = false; busy = m; cards = 0; order = order }

-- the test of a phase
abbrev pub in_phase : Phase → Phase → Bool
in_phase phase.Input = in_input
in_phase phase.Convert = in_convert
in_phase phase.Execute = in_execute
in_phase phase.Output = in_output
in_phase phase.Hardcopy = in_hardcopy
in_phase phase.Purge = in_purge
in_phase phase.Xmit = in_xmit
