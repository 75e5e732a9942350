-- Which tables an index is of, and which queues it stands for.
use Rattle.std.specs.Prelude.{◌≡◌, Bool, List, Option, find}
use Rattle.mas_types.specs.declared.ids.Class.{Class}
use Rattle.mas_types.specs.declared.jobs.Job.{Job}
use Rattle.mas_types.specs.declared.queues.Queue.{Queue}
use Rattle.mas_types.specs.Lists.{is_greatest_of, has_first_key_of}
use Rattle.mas_types.specs.Selection.{job_prio, may_execute, has_class}
use Rattle.ckpt_tables.specs.declared.tables.Tables.{Tables}
use Rattle.job_queue.specs.Jobs.{AreJobs}
use Rattle.output_queue.specs.Outputs.{AreOutputs}
use Rattle.job_select.specs.declared.index.Index.{Index}

-- the slots of the index are those of the tables
pub record IsOf (index : Index) (t : Tables) : Type 0 where
  pub jobs : index.jobs ≡ t.jobs
  pub outputs : index.outputs ≡ t.outputs

-- the records in the slots of the index, by ascending order, are those of the queue's jobs and outputs
pub record StandsFor (index : Index) (Q : Queue) : Type 0 where
  pub jobs : AreJobs index.jobs Q.jobs
  pub outputs : AreOutputs index.outputs Q.outputs

-- the job goes first of those that initiators of these classes may execute
abbrev pub is_for_classes : List Class → List Job → Job → Bool
is_for_classes classes jobs = is_greatest_of job_prio (has_first_key_of has_class classes may_execute jobs) jobs

-- the job selected for execution by initiators of these classes
abbrev pub for_classes : List Class → Queue → Option Job
for_classes classes Q = find (is_for_classes classes Q.jobs) Q.jobs
