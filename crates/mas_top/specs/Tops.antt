-- What the words ask for that is done with one thread.
use Rattle.std.specs.Prelude.{◌≡◌, ◌≢◌, ◌⊎◌, ℕ, Bool, true, false, List, Some, None}
use Rattle.mas_types.specs.declared.answers.Status.TheVariants as status
use Rattle.member_node.specs.Calls.{console_now}
use Rattle.run_opening.specs.Lines.{Proceeds}
use Rattle.run_opening.specs.Runs.{has_begun, Begins, IsUnbegun}
use Rattle.run_opening.specs.Statuses.{IsCaused, LeavesLost}
use Rattle.run_opening.specs.Volumes.{AreVolumesKept}
use Rattle.mas_tasks.specs.declared.tasks.Task.TheVariants as task
use Rattle.mas_tasks.specs.Checks.{IsCheckRun}
use Rattle.mas_tasks.specs.Generates.{IsGenerated}
use Rattle.mas_tasks.specs.Plays.{IsPlayed}
use Rattle.mas_tasks.specs.Reports.{IsReport}
use Rattle.mas_tasks.specs.ScriptRuns.{RunEnd, Sourced}
use Rattle.mas_tasks.specs.Tasks.{task_asked}

-- What these texts ask for is done; the source is the same where it wasn't read.
pub record DoesCalm (texts : List (List ℕ)) (source : Sourced) (unread : Type 0) (r : RunEnd) : Type 0 where
  -- wrong words are refused, unless out of memory, and no others; then nothing is touched
  pub words : r.answer ≡ status.Words → task_asked texts ≡ None
  pub refused : task_asked texts ≡ None → (r.answer ≡ status.Words) ⊎ (r.answer ≡ status.NoMemory)
  pub untouched : task_asked texts ≡ None → unread × r.same × (has_begun r.base ≡ false)
  -- what the words ask for
  pub play : (cold : Bool) → task_asked texts ≡ Some (task.Play cold) → IsPlayed cold false source r
  pub report : task_asked texts ≡ Some task.Report → unread × IsReport r
  pub format : task_asked texts ≡ Some task.Format → IsPlayed true true source r
  pub check : task_asked texts ≡ Some task.Check
      → unread × (has_begun r.base ≡ false) × IsCheckRun r.tells r.answer r.old r.new
  pub generate : (decks : ℕ) → task_asked texts ≡ Some (task.Generate decks) → unread × IsGenerated decks r
  -- in every run
  pub cause : IsCaused r.answer r.old r.new
  pub begun : task_asked texts ≢ Some task.Check → Begins r.answer r.base
  pub unbegun : has_begun r.base ≡ false → IsUnbegun r.base r.journal r.since r.new.now
  pub unsaid : r.tells → task_asked texts ≢ Some task.Check → has_begun r.base ≡ false
      → console_now r.new ≡ console_now r.old
  pub lost : has_begun r.base ≡ false → LeavesLost r.answer r.old r.new
  pub goes : Proceeds r.old r.new
  pub volumes : r.tells → has_begun r.base ≡ false → AreVolumesKept r.old r.new
