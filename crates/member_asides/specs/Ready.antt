-- What holds where a sitting of work leaves a step that waits for acts, and what has to hold where it goes on after
-- them.
use Rattle.std.specs.Prelude.{◌≡◌, ℕ, ◌+◌, ◌≤◌, ◌<◌, is_some, true, false, List, take, None, Some}
use Rattle.mas_types.specs.declared.commands.Command.{Command}
use Rattle.mas_types.specs.declared.commands.Command.TheVariants as command
use Rattle.mas_types.specs.declared.ids.JobNo.{JobNo}
use Rattle.mas_types.specs.declared.ids.MemberId.{MemberId}
use Rattle.mas_types.specs.declared.ids.OutNo.{OutNo}
use Rattle.mas_types.specs.declared.jobs.Output.{Output}
use Rattle.mas_types.specs.declared.jobs.OutSpec.{OutSpec}
use Rattle.mas_types.specs.declared.queues.Queue.{Queue}
use Rattle.mas_types.specs.Commands.Life.{groups_of_outputs, outputs_at_end}
use Rattle.mas_types.specs.Fit.{IsFit, IsIndex, IsJobFields}
use Rattle.mas_types.specs.Owners.{member_count}
use Rattle.mas_types.specs.Queue.{job_at, output_at}
use Rattle.mas_types.specs.Step.{may_give}
use Rattle.ckpt_tables.specs.declared.tables.Tables.{Tables}
use Rattle.track_groups.specs.Groups.{held_by}
use Rattle.queue_commands.specs.Given.{IsGiver, is_plain}
use Rattle.queue_telling.specs.Telling.{Tell, TellSound}
use Rattle.paper_laws.specs.Counts.{IsMarkRight}
use Rattle.spool_plant.specs.View.{View}
use Rattle.spool_plant.specs.declared.plant.Plant.{Ghosts as PlantGhosts}
use Rattle.ckpt_copy.specs.declared.copying.Copying.{Ghosts as CopyGhosts}
use Rattle.ckpt_form.specs.declared.steady.Steady.{Ghosts as SteadyGhosts}
use Rattle.mas_complex.specs.declared.complex.Complex.{Complex}
use Rattle.mas_complex.specs.Paper.{counts_of}
use Rattle.mas_complex.specs.Parts.{Parts, parts_of}
use Rattle.mas_complex.specs.Texts.{Spools, spools_at}
use Rattle.member_sittings.specs.Whole.{queue_of}
use Rattle.job_exec.specs.Running.{AreOutputs}
use Rattle.job_outcome.specs.Outcomes.{IsReadable}
use Rattle.member_work.specs.Printing.{IsPrinting}
use Rattle.member_work.specs.Spooled.{AreSpooled}
use Rattle.member_work.specs.Steps.{IsUnderWay}
use Rattle.step_turns.specs.Courses.{sittings_most}
use Rattle.step_turns.specs.Entries.{is_drop}
use Rattle.step_turns.specs.JobEnds.{chunk_end, groups_for_end, printed_end}
use Rattle.step_turns.specs.Laws.{units_done, units_left}
use Rattle.step_turns.specs.declared.states.Aside.{Aside}
use Rattle.step_turns.specs.declared.states.Found.{Found}
use Rattle.step_turns.specs.declared.states.State.{State}
use Rattle.step_turns.specs.declared.states.State.TheVariants.{Away, Fresh, Rested, Told}
use Rattle.step_turns.specs.declared.states.Aside.TheVariants.{Acknowledge, Exchange, PrintLines, ReadText, SpoolArrival, SpoolDeck, SpoolOutputs}

-- a command that a member may give in a sitting: it brings no text, and the step may close with its reply
pub record MayBeGiven (base : Queue) (by : MemberId) (c : Command) : Type 0 where
  pub plain : is_plain c ≡ true
  pub fit : IsFit c
  pub giver : IsGiver by c
  pub may : may_give base by c ≡ true
  pub closes : is_drop c ≡ false

-- WHERE IT WAITS. The facts on a queue hold of each that the member's tables tell, if none is named.

-- The job is there, whatever the plant tells. It is under way at the member where the tables have the sound parts.
pub record IsJobReady (t : Tables) (by : MemberId) (n : JobNo) : Type 0 where
  pub there : (Q : Queue) → Tell t Q → is_some (job_at Q n) ≡ true
  pub under_way : (Q : Queue) → Tell t Q → TellSound t → IsUnderWay Q by n

-- The output is there, whatever the plant tells. It is busy at the member where the tables have the sound parts. And
-- this is the last of its lines that are printed next.
pub record IsOutputReady (t : Tables) (by : MemberId) (n : JobNo) (i : OutNo) (last : ℕ) : Type 0 where
  pub index : IsIndex i.0
  pub there : (Q : Queue) → Tell t Q → is_some (output_at Q n i) ≡ true
  pub printing : (Q : Queue) → Tell t Q → TellSound t → IsPrinting Q by n i
  pub chunk : (Q : Queue) (o : Output) → Tell t Q → output_at Q n i ≡ Some o → last ≡ chunk_end Q by o

-- The member has the groups that the outputs of a job need. Where content is told the job is under way at it in the
-- queue.
pub record AreOutputsReady (told : Type 0) (Q : Queue) (t : Tables) (by : MemberId) (n : JobNo) (specs : List OutSpec)
    : Type 0 where
  pub outputs : AreOutputs specs
  pub some : 1 ≤ groups_of_outputs specs
  pub enough : groups_of_outputs specs ≤ member_count by t.owners
  pub job : told → IsUnderWay Q by n

-- a unit waits for what it begins with
abbrev pub IsReadyUnit : Tables → MemberId → Aside → Type 0
IsReadyUnit t by (SpoolDeck n text) = ⊥
IsReadyUnit t by (ReadText runs n fields p) = IsJobFields fields × IsJobReady t by n
IsReadyUnit t by (SpoolOutputs n specs p) = ⊥
IsReadyUnit t by (PrintLines n i last p) = IsOutputReady t by n i last
IsReadyUnit t by (Exchange l offer) = ⊥
IsReadyUnit t by (SpoolArrival number n text s) = ⊥
IsReadyUnit t by (Acknowledge number s) = ⊥

-- a step waits, at this queue
abbrev pub IsReadyFor : Type 0 → Queue → Tables → MemberId → Aside → Type 0
IsReadyFor told Q t by (SpoolDeck n text) = ⊥
IsReadyFor told Q t by (ReadText runs n fields p) = IsJobFields fields × IsJobReady t by n
IsReadyFor told Q t by (SpoolOutputs n specs p) = AreOutputsReady told Q t by n specs
IsReadyFor told Q t by (PrintLines n i last p) = IsOutputReady t by n i last
IsReadyFor told Q t by (Exchange l offer) = ⊥
IsReadyFor told Q t by (SpoolArrival number n text s) = ⊥
IsReadyFor told Q t by (Acknowledge number s) = ⊥

-- in a state that a sitting of work leaves: no step begins anew
abbrev pub IsReady : Type 0 → Queue → Tables → MemberId → State → Type 0
IsReady told Q t by (Away aside) = IsReadyFor told Q t by aside
IsReady told Q t by (Fresh task) = ⊥
IsReady told Q t by (Rested p) = Unit {0}
IsReady told Q t by Told = Unit {0}

-- Fewer sittings than so many may follow from this state of a step, and of its units at most so many are done or may
-- still be played.
pub record HasFewer (sittings units : ℕ) (s : State) : Type 0 where
  pub falls : sittings_most s < sittings
  pub few : units_done s + units_left s ≤ units

-- WHERE A STEP GOES ON, by what was found

-- the outputs of a job stand in the lowest groups of the member; one that was cancelled since has none
abbrev pub AreStanding : Spools → Queue → MemberId → JobNo → List OutSpec → Type 0
AreStanding disks Q by n specs = AreSpooled disks Q.config.groups (outputs_at_end (job_at Q n) specs)
    (take (groups_for_end Q n specs) (held_by by Q.owners))

module _ {P C : Type 0} (plants : PlantGhosts P) where
  abbrev v : Parts P C → View
  v x = plants.view x.plant

  -- A step may go on with a job that is under way at the member still, whose text was read, or whose outputs stand
  -- there, unless a volume of theirs was found lost; or with an output whose lines stand on paper, unless one couldn't
  -- be printed.
  abbrev pub IsToResume : Parts P C → MemberId → Aside → Found → Type 0
  IsToResume x by (SpoolDeck n text) found = ⊥
  IsToResume x by (ReadText runs n fields p) found = IsJobFields fields × IsReadable found.read
      × (plants.tells → IsUnderWay (queue_of x) by n)
  IsToResume x by (SpoolOutputs n specs p) found = AreOutputs specs × (plants.tells → IsUnderWay (queue_of x) by n)
      × (found.lost ≡ None → plants.tells → AreStanding (spools_at (v x) (v x).now) (queue_of x) by n specs)
  IsToResume x by (PrintLines n i last p) found = IsIndex i.0
      × (printed_end found.printer found.read ≡ None → plants.tells
      → IsMarkRight (queue_of x) by (counts_of x.printed by) (command.Mark n i last))
  IsToResume x by (Exchange l offer) found = ⊥
  IsToResume x by (SpoolArrival number n text s) found = ⊥
  IsToResume x by (Acknowledge number s) found = ⊥

module _ {P C : Type 0} {plants : PlantGhosts P} {steadies : SteadyGhosts C} {copies : CopyGhosts C} where
  abbrev pub MayResume : Complex P C plants steadies copies → MemberId → Aside → Found → Type 0
  MayResume x by aside found = IsToResume plants (parts_of x) by aside found
