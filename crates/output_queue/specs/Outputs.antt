-- What slots tell of a queue's outputs: all but their texts, of which they tell the numbers of lines.
use Rattle.std.specs.Prelude.{ℕ, Bool, false, not, ◌&&◌, ◌||◌, List, length, Option, find}
use Rattle.std.specs.Option.{option_map_or}
use Rattle.mas_types.specs.declared.ids.MemberId.{MemberId}
use Rattle.mas_types.specs.declared.ids.JobNo.{JobNo}
use Rattle.mas_types.specs.declared.ids.Name8.{Name8}
use Rattle.mas_types.specs.declared.ids.OutNo.{OutNo}
use Rattle.mas_types.specs.declared.jobs.OutSpec.{OutSpec}
use Rattle.mas_types.specs.declared.jobs.Output.{Output}
use Rattle.mas_types.specs.Ids.{nobody, same_number, same_name, is_somebody}
use Rattle.mas_types.specs.Names.{member_name, local_name}
use Rattle.mas_types.specs.Queue.{in_hardcopy, line_count}
use Rattle.lay_bytes.specs.declared.records.JobRec.{JobRec}
use Rattle.lay_bytes.specs.declared.records.OutRec.{OutRec}
use Rattle.queue_slots.specs.Listed.{listed}
use Rattle.queue_slots.specs.Telling.{Tell, TellsFirst}
use Rattle.job_queue.specs.Jobs as jobs

abbrev pub order_of : OutRec → ℕ
order_of r = r.order

-- a record without its order
abbrev pub unordered : OutRec → OutRec
unordered r = record r { order = 0 }

-- the record of an output, without an order
abbrev pub rec_of : Output → OutRec
rec_of o = record {
  job = o.job;
  index = o.index;
  class = o.class;
  dest = o.dest;
  forms = o.forms;
  copies = o.copies;
  held = o.held;
  busy = o.busy;
  mark = o.mark;
  lines = line_count o.text;
  order = 0;
}

-- the records by ascending order are those of the outputs
abbrev pub AreOutputs : List (Option OutRec) → List Output → Type 0
AreOutputs slots outputs = Tell order_of unordered rec_of slots outputs

-- a slot has the first of the outputs that the test picks; where the slot is written, that output is changed, and where
-- it is emptied, that output is gone
abbrev pub HasOutput : (Output → Bool) → List (Option OutRec) → List Output → ℕ → OutRec → Type 0
HasOutput test slots outputs at x = TellsFirst order_of unordered rec_of test slots outputs at x

-- the record of a new output
abbrev pub new_rec : JobNo → OutNo → OutSpec → ℕ → OutRec
new_rec n i s order = record {
  job = n;
  index = i;
  class = s.class;
  dest = s.dest;
  forms = s.forms;
  copies = s.copies;
  held = s.held;
  busy = nobody;
  mark = 0;
  lines = length s.text;
  order = order;
}

-- FOR A PRINTER, by the slots of the jobs

-- the first of the job records with a number
abbrev pub job_rec : List (Option JobRec) → JobNo → Option JobRec
job_rec slots n = find (λ r. same_number r.number n) (listed jobs.order_of slots)

-- the job is in Hardcopy
abbrev pub is_hardcopy : List (Option JobRec) → JobNo → Bool
is_hardcopy slots n = option_map_or (λ r. in_hardcopy r.phase) (job_rec slots n) false

-- the job's priority
abbrev pub prio_of : List (Option JobRec) → JobNo → ℕ
prio_of slots n = option_map_or (λ r. r.fields.prio.0) (job_rec slots n) 0

-- the output has the forms, and goes to any printer or to the member's
abbrev pub fits_printer : MemberId → Name8 → OutRec → Bool
fits_printer m forms r = same_name r.forms forms && (same_name r.dest local_name || same_name r.dest (member_name m))

-- a printer of the member with these forms may take it, whatever its class
abbrev pub may_take : List (Option JobRec) → MemberId → Name8 → OutRec → Bool
may_take slots m forms r = not r.held && not (is_somebody r.busy) && fits_printer m forms r && is_hardcopy slots r.job
