-- What a run does that plays a script.
use Rattle.std.specs.Prelude.{◌≡◌, Bool, true, None}
use Rattle.script_lang.specs.declared.types.Script.{Script}
use Rattle.mas_run.specs.Refusals.{refusal_before_play, said_by, steps_of, IsSaid}
use Rattle.mas_run.specs.Runs.{IsRun, run_result}
use Rattle.mas_run.specs.Statuses.{IsStill}
use Rattle.run_opening.specs.Refusals.{IsPlayedOut}
use Rattle.run_opening.specs.Runs.{has_begun}
use Rattle.run_opening.specs.Volumes.{AreVolumesKept}
use Rattle.mas_tasks.specs.ScriptRuns.{IsScriptRun, RunEnd, Sourced}

-- A run of a script, cold or warm, which takes no steps where it only formats.
pub record IsPlayed (cold only : Bool) (source : Sourced) (r : RunEnd) : Type 0 where
  pub every : IsScriptRun cold source (refusal_before_play cold only source.left r.old) (IsSaid cold only source.left) r
  -- one that only formats changes no byte of a volume
  pub formats : only ≡ true → r.tells → AreVolumesKept r.old r.new
  -- one that has begun plays what its script asks for
  pub run : has_begun r.base ≡ true
      → ((script : Script) × (source.tells → IsSaid cold only source.left script)
      × IsRun cold r.tells script r.old (run_result r.answer r.base r.journal r.since r.new))
  -- what neither a fault, nor a line that loses a copy, nor a takeover of the lock hinders is played to its end, where
  -- a warm run finds a queue and its devices are large enough for it
  pub complete : source.tells → refusal_before_play cold only source.left r.old ≡ None
      → IsStill r.tells (steps_of (said_by cold only source.left)) source.before source.after r.old r.new
      → IsPlayedOut cold r.answer
