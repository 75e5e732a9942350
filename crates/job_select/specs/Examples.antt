-- Worked examples: what the contracts of an index say of two jobs, the second of which stands in a lower slot than the
-- first.
use Rattle.std.specs.Prelude.{◌≡◌, ℕ, Bool, true, false, List, [], ◌∷◌, codes, Option, Some, None, option_map}
use Rattle.mas_types.specs.declared.ids.Class.{Class}
use Rattle.mas_types.specs.declared.ids.JobNo.{JobNo}
use Rattle.mas_types.specs.declared.ids.Name8.{Name8}
use Rattle.mas_types.specs.declared.jobs.Job.{Job}
use Rattle.mas_types.specs.declared.jobs.Phase.{Phase}
use Rattle.mas_types.specs.declared.jobs.Phase.TheVariants as phase
use Rattle.mas_types.specs.declared.jobs.Text.TheVariants.{Whole}
use Rattle.mas_types.specs.declared.queues.Queue.{Queue}
use Rattle.mas_types.specs.Ids.{nobody}
use Rattle.mas_types.specs.Names.{padded, local_name}
use Rattle.mas_types.specs.Selection.{for_convert}
use Rattle.mas_types.specs.Starts.{default_config, empty_queue}
use Rattle.lay_bytes.specs.declared.records.JobRec.{JobRec}
use Rattle.job_queue.specs.Jobs.{rec_of}
use Rattle.job_select.specs.declared.index.Index.{Index}
use Rattle.job_select.specs.Indexes.{StandsFor, for_classes}

abbrev pub name : List ℕ → Name8
name text = record { 0 = padded text }

-- a job in a phase with this number, class and priority, which nobody is at work on
abbrev pub job : Phase → ℕ → ℕ → ℕ → Bool → Job
job in_phase number class prio held = record {
  number = record { 0 = number };
  fields = record {
    name = name (codes "A");
    class = record { 0 = class };
    msgclass = record { 0 = 65 };
    prio = record { 0 = prio };
    held = held;
    scan = false;
    restart = true;
    dest = local_name;
    node = name (codes "HERE");
    origin = name (codes "HERE");
  };
  phase = in_phase;
  cancelled = false;
  busy = nobody;
  text = Whole [];
}

abbrev pub queue_of : List Job → Queue
queue_of jobs = record (empty_queue default_config []) { jobs = jobs }

abbrev pub slots_of : Job → Job → List (Option JobRec)
slots_of first second = None ∷ Some (record (rec_of second) { order = 2 }) ∷ Some (record (rec_of first) { order = 1 })
    ∷ []

-- an index of these two jobs, and no output
pub record IsOfTwo (first second : Job) (index : Index) : Type 0 where
  pub jobs : index.jobs ≡ slots_of first second
  pub outputs : index.outputs ≡ []

-- whatever answers as `convert` has to answers this job
abbrev pub Converts : Job → Job → ℕ → Type 0
Converts first second n =
    (index : Index) (answer : Option JobNo) → IsOfTwo first second index
    → ((Q : Queue) → StandsFor index Q → answer ≡ option_map (λ j. j.number) (for_convert Q))
    → answer ≡ Some (record { 0 = n })

-- whatever answers as `exec` has to for these classes answers this job
abbrev pub Executes : List Class → Job → Job → ℕ → Type 0
Executes classes first second n =
    (index : Index) (answer : Option JobNo) → IsOfTwo first second index
    → ((Q : Queue) → StandsFor index Q → answer ≡ option_map (λ j. j.number) (for_classes classes Q))
    → answer ≡ Some (record { 0 = n })

abbrev pub class_a : ℕ
class_a = 65

abbrev pub class_b : ℕ
class_b = 66

abbrev pub b_before_a : List Class
b_before_a = record { 0 = class_b } ∷ record { 0 = class_a } ∷ []

pub record JobsAreSelected : Type 0 where
  pub first : Converts (job phase.Convert 1 class_a 5 false) (job phase.Convert 2 class_a 5 false) 1
  pub greatest_priority : Converts (job phase.Convert 1 class_a 5 false) (job phase.Convert 2 class_a 15 false) 2
  pub held : Converts (job phase.Convert 1 class_a 5 false) (job phase.Convert 2 class_a 15 true) 1
  pub first_class : Executes b_before_a (job phase.Execute 1 class_a 15 false) (job phase.Execute 2 class_b 5 false) 2
  pub greatest_in_class : Executes b_before_a (job phase.Execute 1 class_a 5 false)
      (job phase.Execute 2 class_a 15 false) 2
