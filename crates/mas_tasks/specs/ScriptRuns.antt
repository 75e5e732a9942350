-- How a run ends, and what holds of each run of a script, however its lines are played.
use Rattle.std.specs.Prelude.{◌≡◌, ◌≢◌, ◌⊎◌, ◌≤◌, ℕ, Bool, true, false, List, [], Option}
use Rattle.mas_types.specs.declared.ids.Dev.{Dev}
use Rattle.mas_types.specs.declared.ids.Dev.TheVariants.{Ckpt1, Ckpt2}
use Rattle.mas_types.specs.declared.journals.Journal.{Journal}
use Rattle.mas_types.specs.declared.queues.Queue.{Queue}
use Rattle.mas_types.specs.declared.answers.CopyState.{CopyState}
use Rattle.mas_types.specs.declared.answers.Status.{Status}
use Rattle.mas_types.specs.declared.answers.Status.TheVariants as status
use Rattle.script_lang.specs.declared.types.Script.{Script}
use Rattle.spool_plant.specs.View.{View}
use Rattle.spool_plant.specs.Acts.{Rose}
use Rattle.ckpt_form.specs.Form.{form_needs}
use Rattle.ckpt_tables.specs.Shape.{page_count}
use Rattle.spool_volumes.specs.Volumes.{AreRoomy}
use Rattle.warm_start.specs.Starting.{OnlyLookedAtAll}
use Rattle.run_opening.specs.declared.ended.Ended.{Ended}
use Rattle.run_opening.specs.Refusals.{Answers, IsTakenFrom, IsTooSmall}
use Rattle.run_opening.specs.Runs.{has_begun, AreSidesKept}
use Rattle.run_opening.specs.Statuses.{LeavesLost, is_unplayed}
use Rattle.run_opening.specs.Unstarted.{IsNotStarted}
use Rattle.run_opening.specs.Volumes.{AreVolumesKept}

-- A script's source: whether it tells what it has left, its faults before and after the run, and what it had and has
-- left.
pub record Sourced : Type 1 where
  pub tells : Type 0
  pub before : ℕ
  pub after : ℕ
  pub left : List ℕ
  pub rest : List ℕ

abbrev pub source_of : {S : Type 0} → Type 0 → (S → ℕ) → (S → List ℕ) → S → S → Sourced
source_of tells faults left old new = record
    { tells = tells; before = faults old; after = faults new; left = left old; rest = left new }

-- How a run ended: its status, the queue that it began with, its journal, and from when on it keeps its promises. Its
-- plant, which tells its content or not, showed `old` before it and `new` after it, and is the same where nothing was
-- done.
pub record RunEnd : Type 1 where
  pub tells : Type 0
  pub same : Type 0
  pub answer : Status
  pub base : Queue
  pub journal : Journal
  pub since : ℕ
  pub old : View
  pub new : View

-- the end of a run that was given this plant
abbrev pub run_end : {P : Type 0} → Type 0 → (P → View) → P → Ended P → RunEnd
run_end tells view plant ended = record {
  tells = tells;
  same = ended.plant ≡ plant;
  answer = ended.status;
  base = ended.base;
  journal = ended.journal;
  since = ended.since;
  old = view plant;
  new = view ended.plant;
}

-- What holds of each run of a script, cold or warm, where this is what refuses it before its lines, and its source said
-- such scripts.
pub record IsScriptRun (cold : Bool) (source : Sourced) (refusal : Option Status) (Says : Script → Type 0) (r : RunEnd)
    : Type 0 where
  -- what refuses it, and why else it ends
  pub refused : source.tells → Answers cold refusal r.answer
  pub words : r.answer ≢ status.Words
  pub device : cold ≡ true → (dev : Dev) (size : ℕ) → r.answer ≡ status.DeviceSize dev size
      → ((script : Script) × (source.tells → Says script) × IsTooSmall script.config dev size r.old)
  pub formatted : cold ≡ true → (first second : CopyState) → r.answer ≡ status.NotFormatted first second → ⊥
  pub unstarted : cold ≡ false → has_begun r.base ≡ false → IsNotStarted r.tells r.answer r.old r.new
  pub faulted : r.answer ≡ status.SourceFault → Rose source.before source.after
  -- where the script is refused, or can't be read, no act is made; one that has not begun leaves all as it was, but
  -- where both copies were lost in the formatting or the start; a warm one looked at the copies; and none arms a stop
  pub untouched : has_begun r.base ≡ false → (r.answer ≡ status.BothLost)
      ⊎ (r.same ⊎ ((cold ≡ false) × (r.tells → OnlyLookedAtAll r.old r.new)))
  pub idle : is_unplayed r.answer ≡ true → r.same
  pub unprinted : r.tells → has_begun r.base ≡ false → AreSidesKept r.old r.new
  pub volumes : r.tells → has_begun r.base ≡ false → AreVolumesKept r.old r.new
  pub loses : has_begun r.base ≡ false → (r.answer ≢ status.BothLost) ⊎ (cold ≡ true) → (d : Dev)
      → r.new.loses d ≡ r.old.loses d
  pub arms : has_begun r.base ≡ false → (m : ℕ) → r.new.arms m ≡ r.old.arms m
  pub lost : has_begun r.base ≡ false → LeavesLost r.answer r.old r.new
  -- one that has begun has room on its devices, and its script was read to the end
  pub room : has_begun r.base ≡ true → (form_needs (page_count r.base.config) ≤ r.old.size Ckpt1)
      × (form_needs (page_count r.base.config) ≤ r.old.size Ckpt2)
  pub roomy : has_begun r.base ≡ true → AreRoomy r.new r.base.config
  pub read : source.tells → has_begun r.base ≡ true → source.rest ≡ []
  pub taken : source.tells → IsTakenFrom source.left source.rest
