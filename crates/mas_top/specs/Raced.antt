-- What a race of a script does.
use Rattle.std.specs.Prelude.{◌≡◌, Bool, true, false, None}
use Rattle.script_lang.specs.declared.types.Script.{Script}
use Rattle.member_node.specs.Calls.{console_now}
use Rattle.run_opening.specs.Lines.{Proceeds}
use Rattle.run_opening.specs.Refusals.{IsPlayedOut}
use Rattle.run_opening.specs.Runs.{has_begun, Begins, IsUnbegun}
use Rattle.run_opening.specs.Statuses.{IsCaused}
use Rattle.race_run.specs.Races.{IsRace, IsUnhindered}
use Rattle.race_run.specs.Scripts.{refusal_before_race, IsSaid}
use Rattle.mas_tasks.specs.ScriptRuns.{IsScriptRun, RunEnd, Sourced}

-- A race of a script, cold or warm.
pub record IsRaced (cold : Bool) (source : Sourced) (r : RunEnd) : Type 0 where
  pub every : IsScriptRun cold source (refusal_before_race cold source.left r.old) (IsSaid cold source.left) r
  -- why it ends, and that it goes on from what was; one that has not begun leaves no journal and says nothing
  pub cause : IsCaused r.answer r.old r.new
  pub begun : Begins r.answer r.base
  pub unbegun : has_begun r.base ≡ false → IsUnbegun r.base r.journal r.since r.new.now
  pub unsaid : r.tells → has_begun r.base ≡ false → console_now r.new ≡ console_now r.old
  pub goes : Proceeds r.old r.new
  -- one that has begun plays what its script asks for
  pub race : has_begun r.base ≡ true
      → ((script : Script) × (source.tells → IsSaid cold source.left script)
      × IsRace cold r.tells script r.answer r.base r.journal r.since r.old r.new)
  -- what nothing hinders is raced to its end, where a warm run finds a queue and its devices are large enough for it
  pub complete : source.tells → refusal_before_race cold source.left r.old ≡ None
      → IsUnhindered source.before source.after r.old r.new → IsPlayedOut cold r.answer
