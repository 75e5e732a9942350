-- Worked examples: of each kind of fault the first one in tables, and none.
use Rattle.std.specs.Prelude.{◌≡◌, ℕ, List, [], ◌∷◌, ◌++◌, replicate, Option, None, Some}
use Rattle.mas_types.specs.declared.jobs.Phase.{Phase}
use Rattle.mas_types.specs.declared.jobs.Phase.TheVariants as phase
use Rattle.mas_types.specs.declared.queues.Owner.{Owner}
use Rattle.mas_types.specs.declared.queues.Owner.TheVariants as owner
use Rattle.mas_types.specs.Starts.{default_config}
use Rattle.queue_laws.specs.Examples.Small.{job, index, member}
use Rattle.lay_bytes.specs.declared.records.JobRec.{JobRec}
use Rattle.lay_bytes.specs.declared.records.OutRec.{OutRec}
use Rattle.ckpt_tables.specs.declared.tables.Tables.{Tables}
use Rattle.ckpt_pages.specs.declared.faults.TableFault.{TableFault}
use Rattle.ckpt_pages.specs.declared.faults.TableFault.TheVariants as fault
use Rattle.ckpt_pages.specs.Sound.{fault_of}
use Rattle.ckpt_pages.specs.Starts.{empty_tables}
use Rattle.layer_examples.specs.Slots.{hello, listing}

-- a job with this number and order in this phase, where a member is busy with it, and with so many cards
abbrev pub a_job : ℕ → ℕ → Phase → ℕ → ℕ → Option JobRec
a_job n order at busy cards = Some
    (record hello { number = job n; order = order; phase = at; busy = member busy; cards = cards })

-- the first output of job 1, with this order and mark: two copies of 25 lines
abbrev pub an_output : ℕ → ℕ → Option OutRec
an_output order mark = Some (record listing
    { job = job 1; index = index 1; busy = member 0; order = order; mark = mark; lines = 25 })

abbrev pub deck : ℕ → ℕ → Owner
deck n place = owner.Deck (job n) place

-- a group of that output
abbrev pub print : Owner
print = owner.Output (job 1) (index 1) 0

-- room for 16 jobs and 32 outputs: two jobs, an output and two groups; the next order is 10
abbrev pub with_jobs : Option JobRec → Option JobRec → Option OutRec → List Owner → Tables
with_jobs first second output owners = record
    (empty_tables (record default_config { jobs = 16; outputs = 32; groups = 2 }) []) {
      order = 10;
      jobs = first ∷ second ∷ replicate 14 None;
      outputs = output ∷ replicate 31 None;
      owners = owners;
    }

-- the fault where the group 0 is of job 1
abbrev pub of_jobs : Option JobRec → Option JobRec → Option TableFault
of_jobs first second = fault_of (with_jobs first second None (deck 1 0 ∷ owner.Free ∷ []))

abbrev pub of_job : Option JobRec → Option OutRec → Owner → Owner → Option TableFault
of_job first output one other = fault_of (with_jobs first None output (one ∷ other ∷ []))

-- a job that was converted, one that has ended, and one that is being entered, each without cards
abbrev pub converted : Option JobRec
converted = a_job 1 0 phase.Convert 0 0

abbrev pub ended : Option JobRec
ended = a_job 1 0 phase.Output 0 0

abbrev pub entering : Option JobRec
entering = a_job 1 0 phase.Input 0 0

-- a wrong job is found in its slot
pub record JobFaultsAreFound : Type 0 where
  pub no_job : of_job None None owner.Free owner.Free ≡ None
  pub busy : of_jobs (a_job 1 0 phase.Convert 2 1) None ≡ None
  pub no_member : of_jobs (a_job 1 0 phase.Convert 3 1) None ≡ Some (fault.Number 0)
  pub busy_in_purge : of_jobs (a_job 1 0 phase.Purge 1 1) None ≡ Some (fault.Number 0)
  pub cards_in_input : of_jobs (a_job 1 0 phase.Input 0 1) None ≡ Some (fault.Number 0)
  pub cards_without_group : of_jobs None (a_job 2 9 phase.Convert 0 1) ≡ Some (fault.Number 1)
  pub last_order : of_jobs None (a_job 1 9 phase.Convert 0 1) ≡ None
  pub order_above : of_jobs None (a_job 1 10 phase.Convert 0 1) ≡ Some (fault.Number 1)
  pub number_twice : of_jobs (a_job 1 4 phase.Convert 0 1) (a_job 1 5 phase.Convert 0 1) ≡ Some (fault.Number 1)
  pub order_twice : of_jobs (a_job 1 4 phase.Convert 0 1) (a_job 2 4 phase.Convert 0 0) ≡ Some (fault.Number 1)
  pub two : of_jobs (a_job 1 4 phase.Convert 0 1) (a_job 2 5 phase.Convert 0 0) ≡ None

-- a wrong output is found in its slot behind those of jobs, a wrong group and a wrong place at their group
pub record OtherFaultsAreFound : Type 0 where
  pub whole_mark : of_job ended (an_output 1 50) print (owner.Member (member 2)) ≡ None
  pub mark_above : of_job ended (an_output 1 51) print owner.Free ≡ Some (fault.Number 16)
  pub order_twice : of_job ended (an_output 0 0) print owner.Free ≡ Some (fault.Number 16)
  pub lines_without_group : of_job ended (an_output 1 0) owner.Free owner.Free ≡ Some (fault.Number 16)
  pub job_without_outputs : of_job converted (an_output 1 0) print owner.Free ≡ Some (fault.Number 16)
  pub no_output : of_job ended None print owner.Free ≡ Some (fault.Owner 0)
  pub no_job : of_job converted None owner.Free (deck 2 0) ≡ Some (fault.Owner 1)
  pub job_in_input : of_job entering None (deck 1 0) owner.Free ≡ Some (fault.Owner 0)
  pub no_member : of_job converted None (deck 1 1) (owner.Member (member 3)) ≡ Some (fault.Owner 1)
  pub place_twice : of_job converted None (deck 1 0) (deck 1 0) ≡ Some (fault.Place 1)
  pub place_left_out : of_job converted None owner.Free (deck 1 1) ≡ Some (fault.Place 1)
  pub other_order : of_job converted None (deck 1 1) (deck 1 0) ≡ None
