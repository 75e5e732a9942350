-- Worked examples: which job is converted or executed next, and which output goes to a printer.
use Rattle.std.specs.Prelude.{◌≡◌, ℕ, Bool, true, false, List, [], ◌∷◌, codes, Option, None, Some, option_map}
use Rattle.mas_types.specs.declared.ids.JobNo.{JobNo}
use Rattle.mas_types.specs.declared.ids.OutNo.{OutNo}
use Rattle.mas_types.specs.declared.jobs.Phase.{Phase}
use Rattle.mas_types.specs.declared.jobs.Phase.TheVariants as phase
use Rattle.mas_types.specs.declared.jobs.Text.TheVariants.{Gone}
use Rattle.mas_types.specs.declared.jobs.Job.{Job}
use Rattle.mas_types.specs.declared.jobs.Output.{Output}
use Rattle.mas_types.specs.declared.queues.Setting.{Setting}
use Rattle.mas_types.specs.declared.queues.Queue.{Queue}
use Rattle.mas_types.specs.Queue.{first_in, in_execute, in_purge}
use Rattle.mas_types.specs.Selection.{for_convert, for_execute, for_printer}
use Rattle.mas_types.specs.Starts.{classes_of, default_config, default_setting}
use Rattle.queue_laws.specs.Examples.Small.{class, empty, fields_of, index, job, member, name}

-- a job with this number, priority and class in this phase
abbrev pub a_job : ℕ → ℕ → ℕ → Phase → Job
a_job n prio c at = record {
  number = job n;
  fields = record (fields_of (codes "A")) { prio = record { 0 = prio }; class = class c };
  phase = at;
  cancelled = false;
  busy = member 0;
  text = Gone (record { 0 = 0 }) 1;
}

abbrev pub held : Job → Job
held j = record j { fields = record j.fields { held = true } }

-- an output of this job, with this index and class
abbrev pub an_output : ℕ → ℕ → ℕ → Output
an_output n i c = record {
  job = job n;
  index = index i;
  class = class c;
  dest = name (codes "LOCAL");
  forms = name (codes "STD");
  copies = 1;
  held = false;
  busy = member 0;
  mark = 0;
  text = Gone (record { 0 = 0 }) 5;
}

abbrev pub queue_of : List Job → List Output → Setting → Queue
queue_of jobs outputs setting = record (empty default_config) { jobs = jobs; outputs = outputs; members = setting ∷ [] }

-- CONVERSION

abbrev pub older : Job
older = a_job 1 5 65 phase.Convert

abbrev pub raised : Job
raised = a_job 2 15 65 phase.Convert

abbrev pub converted_of : List Job → Option JobNo
converted_of jobs = option_map (λ j. j.number) (for_convert (queue_of jobs [] default_setting))

-- EXECUTION

-- two jobs wait to be executed, the second of class A; the third isn't converted yet
abbrev pub three_jobs : List Job
three_jobs = a_job 1 15 66 phase.Execute ∷ a_job 2 5 65 phase.Execute ∷ a_job 3 15 65 phase.Convert ∷ []

-- the job executed by a member whose initiators run these classes
abbrev pub executed_by : List ℕ → Option JobNo
executed_by classes = option_map (λ j. j.number)
    (for_execute (queue_of three_jobs [] (record default_setting { init = classes_of classes })) (member 1))

abbrev pub first_number : (Phase → Bool) → Option JobNo
first_number test = option_map (λ j. j.number) (first_in test (queue_of three_jobs [] default_setting))

-- PRINTING

-- two jobs whose outputs wait, of which the second has the greater priority, and one that hasn't ended
abbrev pub printed_jobs : List Job
printed_jobs = a_job 1 5 65 phase.Hardcopy ∷ a_job 2 9 65 phase.Hardcopy ∷ a_job 3 15 65 phase.Output ∷ []

abbrev pub four_outputs : List Output
four_outputs = an_output 1 1 66 ∷ an_output 1 2 65 ∷ an_output 3 1 65 ∷ an_output 2 1 65 ∷ []

-- the output printed by a printer that takes these classes and has these forms
abbrev pub printed_by : List ℕ → List ℕ → Option (JobNo × OutNo)
printed_by classes forms =
    option_map (λ o. (o.job, o.index))
    (for_printer (queue_of printed_jobs four_outputs
    (record default_setting { prt = classes_of classes; forms = name forms })) (member 1))

pub record WorkIsSelected : Type 0 where
  -- a member converts the older job if neither has the greater priority; a held job is passed over
  pub by_order : converted_of (older ∷ a_job 2 5 65 phase.Convert ∷ []) ≡ Some (job 1)
  pub by_priority : converted_of (older ∷ raised ∷ []) ≡ Some (job 2)
  pub not_held : converted_of (older ∷ held raised ∷ []) ≡ Some (job 1)
  pub none_waits : converted_of (held older ∷ []) ≡ None
  -- a member executes a job of the first of its classes that a job has, whatever the priority
  pub no_class : executed_by (codes "C") ≡ None
  pub by_class : executed_by (codes "CAB") ≡ Some (job 2)
  pub first_executed : first_number in_execute ≡ Some (job 1)
  pub none_purged : first_number in_purge ≡ None
  -- of the outputs of its classes and forms a printer takes the one whose job has the greatest priority
  pub of_class_b : printed_by (codes "B") (codes "STD") ≡ Some (job 1, index 1)
  pub of_class_a : printed_by (codes "A") (codes "STD") ≡ Some (job 2, index 1)
  pub other_forms : printed_by (codes "A") (codes "WIDE") ≡ None
