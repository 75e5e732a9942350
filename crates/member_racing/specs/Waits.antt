-- A member of a race between two turns: what it has there, and needs at its next one.
use Rattle.std.specs.Prelude.{◌≡◌, ℕ, ◌≤◌, ◌<◌, Bool, false, true, List, ◌++◌, length, All, None}
use Rattle.mas_types.specs.declared.ids.MemberId.{MemberId}
use Rattle.mas_types.specs.declared.journals.Entry.{Entry}
use Rattle.mas_types.specs.declared.queues.Queue.{Queue}
use Rattle.mas_types.specs.Fit.{IsConfig}
use Rattle.mas_types.specs.Limits.{steps_most}
use Rattle.mas_types.specs.Queue.{is_member}
use Rattle.mas_types.specs.Sound.{IsSound}
use Rattle.lock_cycle.specs.Books.{is_stopped}
use Rattle.spool_plant.specs.declared.plant.Plant.{Ghosts as PlantGhosts}
use Rattle.ckpt_copy.specs.declared.copying.Copying.{Ghosts as CopyGhosts}
use Rattle.ckpt_form.specs.declared.steady.Steady.{Ghosts as SteadyGhosts}
use Rattle.ckpt_tables.specs.Shape.{page_count}
use Rattle.mas_complex.specs.declared.complex.Complex.{Complex}
use Rattle.mas_complex.specs.Journals.{in_flight}
use Rattle.mas_complex.specs.Parts.{Parts, parts_of}
use Rattle.mas_complex.specs.Texts.{spools_at}
use Rattle.job_exec.specs.Running.{AreOutputs}
use Rattle.script_lang.specs.declared.types.Ask.{Ask}
use Rattle.step_turns.specs.declared.states.Found.{Found}
use Rattle.step_turns.specs.Laws.{on_line}
use Rattle.step_turns.specs.declared.states.State.{State}
use Rattle.step_turns.specs.declared.states.State.TheVariants.{Away, Fresh, Told}
use Rattle.step_turns.specs.declared.states.Aside.TheVariants.{PrintLines, ReadText, SpoolOutputs}
use Rattle.race_turns.specs.Turns.{racer}
use Rattle.gate_turns.specs.Shared.{begun_by}
use Rattle.track_groups.specs.Groups.{held_by}
use Rattle.member_node.specs.declared.member.Member.{Member}
use Rattle.member_node.specs.Wanted.{HasHad}
use Rattle.member_work.specs.Printing.{IsPrinting}
use Rattle.member_work.specs.Spooled.{AreSpooled}
use Rattle.member_work.specs.Steps.{IsUnderWay}
use Rattle.member_sittings.specs.Whole.{HasUntold, queue_of}
use Rattle.member_asides.specs.Asides.{lowest_for}
use Rattle.member_resets.specs.Asides.{MayActAfter}
use Rattle.member_resets.specs.Quiet.{IsIdle}
use Rattle.member_resets.specs.Sits.{AreFewUnits, IsFoundRight, WaitsWell}
use Rattle.member_resets.specs.Stand.{Stand}
use Rattle.member_racing.specs.Asked.{IsAsked}
use Rattle.member_racing.specs.Stages.{first_unsaid}
use Rattle.member_racing.specs.declared.stages.Stage.{Stage as Stands}
use Rattle.member_racing.specs.declared.stages.Stage.TheVariants as line

-- WHAT A STEP WAITS FOR IS ITS MEMBER'S, whatever others give

-- a step goes on: it stands neither before its first sitting nor where it is told
abbrev pub is_begun : State → Bool
is_begun (Fresh task) = false
is_begun Told = false
is_begun _ = true

abbrev pub IsMine : Queue → MemberId → State → Type 0
IsMine Q by (Away (ReadText runs n fields p)) = IsUnderWay Q by n
IsMine Q by (Away (SpoolOutputs n specs p)) = IsUnderWay Q by n
IsMine Q by (Away (PrintLines n i last p)) = IsPrinting Q by n i
IsMine Q by _ = Unit {0}

module _ {P C : Type 0} (plants : PlantGhosts P) (copies : CopyGhosts C) where
  -- A member that may take its seat once it has the lock, whoever wrote since it did: it has given all that it took up,
  -- has room for the pages of the configuration, and its own pages are those that it noted.
  pub record IsAtEase (x : Parts P C) (m : Member) : Type 0 where
    pub idle : IsIdle m
    pub many : length m.room ≡ page_count x.base.config
    pub tables : x.base.config ≡ m.checkpoint.tables.config
    pub noted : HasHad plants.tells m.fresh x.had m.id.0 m.checkpoint.pages

  -- Its step of this number goes on from a state, and has the lock for itself then, with a whole hold.
  pub record GoesOnIn (x : Parts P C) (m : Member) (at : ℕ) (s : Stand) : Type 0 where
    pub up : is_stopped x.book m.id ≡ false
    pub off : on_line s.state ≡ false
    pub begun : is_begun s.state ≡ true
    pub holder : s.holder ≡ racer x.base.config m.id at
    pub few : AreFewUnits s.state
    pub mine : plants.tells → IsMine (queue_of x) m.id s.state

  -- What was found in the acts before a sitting is right still. The texts of a job's outputs stand, whether it was
  -- cancelled since or not.
  abbrev pub IsStillRight : Parts P C → MemberId → State → Found → Type 0
  IsStillRight x by (Away (SpoolOutputs n specs p)) found = AreOutputs specs
      × (found.lost ≡ None → plants.tells → AreSpooled (spools_at (plants.view x.plant) (plants.view x.plant).now)
      x.base.config.groups specs (lowest_for by (queue_of x).owners specs))
  IsStillRight x by s found = IsFoundRight plants copies x by s found

  -- with a sitting
  pub record MaySitNext (x : Parts P C) (m : Member) (at : ℕ) (s : Stand) : Type 0 where
    pub goes : GoesOnIn x m at s
    pub right : IsStillRight x m.id s.state s.found

  -- With acts, once nothing is in flight. They go by the tables that the member had when it left the lock; the queue
  -- has the same groups for it.
  pub record MayActNext (x : Parts P C) (m : Member) (at : ℕ) (s : Stand) : Type 0 where
    pub goes : GoesOnIn x m at s
    pub may : MayActAfter plants (record x { current = None }) m s.state
    pub well : WaitsWell plants.tells (queue_of x) m s.state
    pub groups : plants.tells → held_by m.id (queue_of x).owners ≡ held_by m.id m.checkpoint.tables.owners

  abbrev pub WaitsAt : Parts P C → Member → ℕ → Stands → Type 0
  WaitsAt x m at line.Opens = Unit {0}
  WaitsAt x m at (line.Sits s) = MaySitNext x m at s
  WaitsAt x m at (line.Acts s) = MayActNext x m at s
  WaitsAt x m at line.Closed = Unit {0}

  -- the entries of the member's batches
  abbrev pub given_by : Parts P C → MemberId → List Entry
  given_by x by = begun_by by (x.batches ++ in_flight x.current)

  -- A member of the configuration at its line of this number. No line tells this step of it, or a later one; all that
  -- it gave is of this step or of an earlier one, and of an earlier one where it is stopped. Unless it is stopped it
  -- is at its ease.
  pub record IsWaiting (x : Parts P C) (m : Member) (at : ℕ) (what : Ask) (s : Stands) : Type 0 where
    pub config : IsConfig x.base.config
    pub sound : plants.tells → IsSound x.base
    pub member : is_member x.base.config m.id ≡ true
    pub few : at ≤ steps_most
    pub asked : IsAsked x.base m.id what
    pub ease : is_stopped x.book m.id ≡ false → IsAtEase x m
    pub given : All (λ e. e.step ≤ at) (given_by x m.id)
    pub earlier : is_stopped x.book m.id ≡ true → All (λ e. e.step < first_unsaid at s) (given_by x m.id)
    pub untold : (later : ℕ) → first_unsaid at s ≤ later → later ≤ steps_most → HasUntold plants copies x m.id later
    pub stands : WaitsAt x m at s

-- OVER THE SHARED VALUE

module _ {P C : Type 0} {plants : PlantGhosts P} {steadies : SteadyGhosts C} {copies : CopyGhosts C} where
  abbrev pub Waits : Complex P C plants steadies copies → Member → ℕ → Ask → Stands → Type 0
  Waits x m at what s = IsWaiting plants copies (parts_of x) m at what s

  -- unless it is stopped the member is at its ease
  abbrev pub HasEase : Complex P C plants steadies copies → Member → Type 0
  HasEase x m = is_stopped x.book m.id ≡ false → IsAtEase plants copies (parts_of x) m
