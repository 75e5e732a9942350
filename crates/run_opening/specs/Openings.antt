-- What stands before the lines of a run, however they are played then: what it began with, and what was given first.
use Rattle.std.specs.Prelude.{◌≡◌, ◌≢◌, ◌⊎◌, ℕ, ◌≤◌, ◌<◌, Bool, true, false, List, [], Ok}
use Rattle.mas_types.specs.declared.answers.CopyState.{CopyState}
use Rattle.mas_types.specs.declared.answers.Status.{Status}
use Rattle.mas_types.specs.declared.answers.Status.TheVariants as status
use Rattle.mas_types.specs.declared.ids.Dev.{Dev}
use Rattle.mas_types.specs.declared.ids.Dev.TheVariants.{Ckpt1, Ckpt2}
use Rattle.mas_types.specs.declared.journals.Batch.{Batch}
use Rattle.mas_types.specs.declared.journals.Journal.{Journal}
use Rattle.mas_types.specs.declared.queues.Queue.{Queue}
use Rattle.mas_types.specs.Lists.{first_some}
use Rattle.mas_types.specs.Sound.{IsSound}
use Rattle.script_lang.specs.declared.types.Script.{Script}
use Rattle.spool_plant.specs.declared.plant.Part.TheVariants.{Disk}
use Rattle.spool_plant.specs.declared.plant.Plant.{Ghosts as PlantGhosts}
use Rattle.spool_plant.specs.Acts.{Goes}
use Rattle.spool_plant.specs.View.{View}
use Rattle.ckpt_copy.specs.declared.copying.Copying.{Ghosts as CopyGhosts}
use Rattle.ckpt_copy.specs.Meanwhile.{SameSides}
use Rattle.ckpt_form.specs.declared.steady.Steady.{Ghosts as SteadyGhosts}
use Rattle.ckpt_form.specs.Form.{form_needs, form_reads}
use Rattle.ckpt_tables.specs.Shape.{page_count}
use Rattle.duplex_pair.specs.Halves.{SomeAlive}
use Rattle.spool_volumes.specs.Volumes.{AreRoomy}
use Rattle.warm_start.specs.Starting.{OnlyLookedAtAll}
use Rattle.mas_complex.specs.declared.complex.Complex.{Complex}
use Rattle.mas_complex.specs.Headline.{LeavesQueue}
use Rattle.mas_complex.specs.Journals.{AreSettled, kept_all}
use Rattle.mas_complex.specs.Meaning.{run}
use Rattle.mas_complex.specs.Paper.{SamePapers}
use Rattle.mas_complex.specs.Past.{noted_by, values_of}
use Rattle.mas_complex.specs.Renewals.{no_renewals}
use Rattle.mas_complex.specs.CallCounts.{pair_of}
use Rattle.member_node.specs.declared.member.Member.{Member}
use Rattle.member_node.specs.Calls.{Apart, Grows, console_now}
use Rattle.run_turns.specs.Scenes.{scene_of}
use Rattle.run_opening.specs.Fresh.{AreFresh}
use Rattle.run_opening.specs.Lines.{Proceeds, StaysLost}
use Rattle.run_opening.specs.Resets.{HasReset}
use Rattle.run_opening.specs.Refusals.{refused_sizes, Answers, IsTooSmall}
use Rattle.run_opening.specs.Runs.{has_begun, as_found, AreAway, AreSidesKept, Begins, HasBase, IsFormatted, IsOpened, IsSafe, IsUnbegun, LosesFirst, OneIsGood}
use Rattle.run_opening.specs.Shows.{BetweenLines, Shows}
use Rattle.run_opening.specs.Statuses.{IsCaused, IsCausedFrom, LeavesLost, is_of_text}
use Rattle.run_opening.specs.Unstarted.{IsNotStarted}
use Rattle.run_opening.specs.Volumes.{AreVolumesKept}

-- WHAT A RUN BEGAN WITH, as a later view of the plant shows it. A call had lost each device so often before its first
-- moment; these devices were lost at that moment, or are now: the same, but for one that was replaced.
pub record HasBegunWith (cold : Bool) (tells : Type 0) (script : Script) (base : Queue) (since : ℕ) (first : Dev → ℕ)
    (lost : Dev → Bool) (old new : View) : Type 0 where
  pub before : (d : Dev) → LosesFirst cold d (old.loses d) (first d)
  pub queue : HasBase cold tells script old (as_found lost new) since first base
  pub sound : IsSound base
  pub moment : (old.now ≤ since) × (since ≤ new.now)
  pub fresh : tells → ∥ LeavesQueue form_reads base since (as_found lost new) ∥₁
  pub formatted : cold ≡ true → tells → IsFormatted script.config script.routes since new
  pub quiet : tells → (new.world since).console ≡ console_now old
  pub dry : tells → SameSides (old.world old.now) (new.world since)

-- WHAT WAS GIVEN FIRST, up to what the plant showed as the lines began: nothing in a cold run, and Restart in a warm
-- one. Nothing was said or printed by then, no byte of a volume changed, and each device had been lost so often by a
-- call.
pub record HasOpened (cold : Bool) (tells : Type 0) (since : ℕ) (first : Dev → ℕ) (opening : List Batch)
    (old entry : View) : Type 0 where
  pub began : since ≤ entry.now
  pub entered : Goes old entry
  pub lost_before : (d : Dev) → entry.loses d ≡ first d
  pub opened : (answer : Status) (rest : List Batch) (many : ℕ) → IsOpened cold answer since entry.now opening many rest
  pub unsaid : tells → console_now entry ≡ console_now old
  pub papers : tells → SamePapers old entry
  pub dry : tells → AreSidesKept old entry
  pub volumes : tells → AreVolumesKept old entry

-- A RUN THAT IS OPEN: its members are fresh, and its lines can be played from here on. Whatever its plant shows later,
-- what it began with is known.

module _ {P C : Type 0} {plants : PlantGhosts P} {steadies : SteadyGhosts C} {copies : CopyGhosts C} where
  abbrev pub at_end : Complex P C plants steadies copies → View
  at_end x = plants.view x.plant

  pub record IsOpenRun (cold : Bool) (tells : Type 0) (script : Script) (old : View)
      (x : Complex P C plants steadies copies) (members : List Member) : Type 0 where
    pub first : Dev → ℕ
    pub lost : View → Dev → Bool
    pub lost_on : (new : View) (d : Dev) → StaysLost d (at_end x) new → lost new d ≡ new.lost (Disk d)
    pub begun : (new : View) → Proceeds (at_end x) new
        → HasBegunWith cold tells script x.base x.since first (lost new) old new
    pub opened : HasOpened cold tells x.since first x.journal.batches old (at_end x)
    pub has : has_begun x.base ≡ true
    pub between : BetweenLines x members 1
    pub fresh : AreFresh x.base.config members
    -- no member has noted any pages
    pub noted : (m : ℕ) → 0 < m → noted_by (values_of x.had) m ≡ []
    pub shows : Shows (Unit {0}) (scene_of (run x.base (kept_all x.journal.batches))) x
    pub settled : AreSettled x.journal.batches (at_end x).now
    pub unrenewed : x.renewals ≡ no_renewals
    pub some : SomeAlive x.pair.first.alive x.pair.second.alive
    pub there1 : x.pair.first.alive ≡ true → (at_end x).lost (Disk Ckpt1) ≡ false
    pub there2 : x.pair.second.alive ≡ true → (at_end x).lost (Disk Ckpt2) ≡ false
    pub goes : Proceeds old (at_end x)
    -- the causes of its status are those of its lines
    pub causes : (answer : Status) (new : View) → Proceeds (at_end x) new
        → ((d : Dev) → Grows ((at_end x).loses d) (new.loses d))
        → IsCausedFrom x.pair.first.alive x.pair.second.alive answer (at_end x) new → IsCaused answer old new
    pub room : (form_needs (page_count x.base.config) ≤ old.size Ckpt1)
        × (form_needs (page_count x.base.config) ≤ old.size Ckpt2)
    pub roomy : AreRoomy (at_end x) x.base.config
    pub answers : (answer : Status) → Begins answer x.base → is_of_text answer ≡ false
        → Answers cold (first_some (refused_sizes cold script.config old)) answer

  -- Restart was given on the value that a start found, and the members are fresh.
  pub record IsResetRun (x y : Complex P C plants steadies copies) (members : List Member) : Type 0 where
    pub base : y.base ≡ x.base
    pub since : y.since ≡ x.since
    pub reset : HasReset plants.tells y.journal.batches (pair_of x) (pair_of y) (Ok (tt {0}))
    pub between : BetweenLines y members 1
    pub fresh : AreFresh y.base.config members
    pub noted : (m : ℕ) → 0 < m → noted_by (values_of y.had) m ≡ []
    pub shows : Shows (Unit {0}) (scene_of (run y.base (kept_all y.journal.batches))) y
    pub settled : AreSettled y.journal.batches (at_end y).now
    pub unrenewed : y.renewals ≡ no_renewals
    pub some : SomeAlive y.pair.first.alive y.pair.second.alive
    pub there1 : y.pair.first.alive ≡ true → (at_end y).lost (Disk Ckpt1) ≡ false
    pub there2 : y.pair.second.alive ≡ true → (at_end y).lost (Disk Ckpt2) ≡ false

  -- The run ended with that: both copies were lost, or it was out of memory, perhaps before the reset was begun.
  pub record IsUnreset (x : Complex P C plants steadies copies) (answer : Status) (base : Queue) (journal : Journal)
      (since : ℕ) (new : View) : Type 0 where
    pub why : (answer ≡ status.NoMemory) ⊎ (answer ≡ status.BothLost)
    pub base_is : base ≡ x.base
    pub since_is : since ≡ x.since
    pub opened : IsOpened false answer since new.now journal.batches 0 []
    pub goes : Goes (at_end x) new
    pub loses : (d : Dev) → new.loses d ≡ (at_end x).loses d
    pub cause : IsCausedFrom x.pair.first.alive x.pair.second.alive answer (at_end x) new
    pub apart : plants.tells → Apart (at_end x) new
    pub safe : IsSafe plants.tells base journal no_renewals since new
    pub away : answer ≡ status.BothLost → AreAway no_renewals new
    pub good : answer ≢ status.BothLost → OneIsGood no_renewals new

-- A RUN THAT ENDED BEFORE ITS LINES. It hasn't begun; or it has, and then it is a warm one that couldn't be reset: both
-- copies were lost, or it was out of memory.

pub record HasNoLines (cold : Bool) (tells : Type 0) (script : Script) (answer : Status) (base : Queue)
    (journal : Journal) (since : ℕ) (old new : View) : Type 0 where
  pub why : (answer ≡ status.NoMemory) ⊎ (answer ≡ status.BothLost)
  pub first : Dev → ℕ
  pub lost : Dev → Bool
  pub lost_on : (d : Dev) → lost d ≡ new.lost (Disk d)
  pub begun : HasBegunWith cold tells script base since first lost old new
  pub opened : IsOpened cold answer since new.now journal.batches 0 []
  pub began : since ≤ new.now
  pub entered : Goes old new
  pub lost_before : (d : Dev) → new.loses d ≡ first d
  pub unsaid : tells → console_now new ≡ console_now old
  pub papers : tells → SamePapers old new
  pub dry : tells → AreSidesKept old new
  pub volumes : tells → AreVolumesKept old new
  pub safe : IsSafe tells base journal no_renewals since new
  pub away : answer ≡ status.BothLost → AreAway no_renewals new
  pub good : answer ≢ status.BothLost → OneIsGood no_renewals new

pub record EndsFirst (cold : Bool) (tells same : Type 0) (script : Script) (answer : Status) (base : Queue)
    (journal : Journal) (since : ℕ) (old new : View) : Type 0 where
  pub refused : Answers cold (first_some (refused_sizes cold script.config old)) answer
  pub device : cold ≡ true → (dev : Dev) (size : ℕ) → answer ≡ status.DeviceSize dev size
      → IsTooSmall script.config dev size old
  pub no_source : answer ≡ status.SourceFault → ⊥
  pub no_text : is_of_text answer ≡ false
  pub not_done : answer ≡ status.Done → ⊥
  pub formatted : cold ≡ true → (first second : CopyState) → answer ≡ status.NotFormatted first second → ⊥
  pub unstarted : cold ≡ false → has_begun base ≡ false → IsNotStarted tells answer old new
  pub cause : IsCaused answer old new
  pub begun : Begins answer base
  pub unbegun : has_begun base ≡ false → IsUnbegun base journal since new.now
  pub untouched : has_begun base ≡ false → (answer ≡ status.BothLost)
      ⊎ (same ⊎ ((cold ≡ false) × (tells → OnlyLookedAtAll old new)))
  pub unsaid : tells → has_begun base ≡ false → console_now new ≡ console_now old
  pub unprinted : tells → has_begun base ≡ false → AreSidesKept old new
  pub goes : Proceeds old new
  pub arms : has_begun base ≡ false → (m : ℕ) → new.arms m ≡ old.arms m
  pub loses : has_begun base ≡ false → (answer ≢ status.BothLost) ⊎ (cold ≡ true) → (d : Dev)
      → new.loses d ≡ old.loses d
  pub lost : has_begun base ≡ false → LeavesLost answer old new
  pub volumes : tells → has_begun base ≡ false → AreVolumesKept old new
  pub room : has_begun base ≡ true → (form_needs (page_count base.config) ≤ old.size Ckpt1)
      × (form_needs (page_count base.config) ≤ old.size Ckpt2)
  pub roomy : has_begun base ≡ true → AreRoomy new base.config
  pub none : has_begun base ≡ true → HasNoLines cold tells script answer base journal since old new
