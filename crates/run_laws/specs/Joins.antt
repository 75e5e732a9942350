-- What the next run makes of what a run left.
use Rattle.std.specs.Prelude.{◌≡◌, ◌⊎◌, ℕ, ◌≤◌, ◌||◌, ◌++◌, Bool, true, false}
use Rattle.mas_types.specs.declared.answers.Status.{Status}
use Rattle.mas_types.specs.declared.journals.Journal.{Journal}
use Rattle.mas_types.specs.declared.queues.Queue.{Queue}
use Rattle.mas_types.specs.Journal.{kept_at, flying_at}
use Rattle.script_lang.specs.declared.types.Script.{Script}
use Rattle.spool_plant.specs.View.{View}
use Rattle.mas_complex.specs.Meaning.{run}
use Rattle.mas_complex.specs.Texts.{lost_now}
use Rattle.run_opening.specs.Runs.{has_begun, as_found}
use Rattle.mas_run.specs.Runs.{IsRun, RunResult, run_result}
use Rattle.run_laws.specs.Left.{IsLeftBy}
use Rattle.run_laws.specs.Again.{IsQueueAgain}
use Rattle.run_laws.specs.Beginning.{level_first, order_first, AreGoodLeft, AreLarge, BothLow, HasEnded, IsHindered}

-- the volumes that are lost at the end of one run or of the next
abbrev pub lost_in : View → View → ℕ → Bool
lost_in one next n = lost_now one n || lost_now next n

-- the queue after the entries that were kept at a moment, or the one with those that were in flight, again
abbrev pub IsQueueOf : (ℕ → Bool) → Queue → Journal → ℕ → Queue → Type 0
IsQueueOf gone base J t found =
    IsQueueAgain gone base.config.groups (run base (kept_at J t)) found
    ⊎ IsQueueAgain gone base.config.groups (run base (kept_at J t ++ flying_at J t)) found

-- The next run begins, with the queue of the moment. Or it doesn't, and where levels and orders are left by a run that
-- began with this level and next order and then, and the devices are large enough, something else hinders it.
abbrev pub GoesOn : ℕ → ℕ → ℕ → Queue → Journal → ℕ → View → Status → Queue → View → View → Type 0
GoesOn l order since base J t last ends found old new =
    ((has_begun found ≡ true) × ∥ IsQueueOf (lost_in last new) base J t found ∥₁)
    ⊎ ((has_begun found ≡ false) × (BothLow l order since old → AreLarge base.config old → IsHindered ends old new))

-- the level and the next order with which a run began
abbrev pub level_of : {cold : Bool} {tells : Type 0} {script : Script} {old : View} {end : RunResult}
    → IsRun cold tells script old end → ℕ
level_of {cold} {tells} {script} {old} {end} was =
    level_first cold tells script old (as_found was.lost end.view) end.since was.first end.base was.begun.queue

abbrev pub order_of : {cold : Bool} {tells : Type 0} {script : Script} {old : View} {end : RunResult}
    → IsRun cold tells script old end → ℕ
order_of {cold} {tells} {script} {old} {end} was =
    order_first cold tells script old (as_found was.lost end.view) end.since was.first end.base was.begun.queue

-- A run was played, cold or warm, and at a moment of it a crash left what a plant shows. A warm run on that plant goes
-- on so, whatever its contract says of it, where beside each copy that was being replaced then a good one is left.
abbrev pub FindsWhatIsLeft : Type 0 → Type 0 → Type 0
FindsWhatIsLeft first_tells next_tells =
    first_tells → next_tells
    → (cold : Bool) (script next : Script) (answer ends : Status) (base found : Queue) (J K : Journal)
    (since from t : ℕ) (first last old new : View)
    → (was : IsRun cold first_tells script first (run_result answer base J since last)) → since ≤ t → t ≤ last.now
    → IsLeftBy t last old
    → AreGoodLeft was.steps.renewals t (level_of was) (order_of was) since (has_begun found) old new
    → HasEnded next_tells ends found old new
    → (has_begun found ≡ true → IsRun false next_tells next old (run_result ends found K from new))
    → GoesOn (level_of was) (order_of was) since base J t last ends found old new
