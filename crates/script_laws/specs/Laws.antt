-- What is true of all scripts.
use Rattle.std.specs.Prelude.{◌≡◌, ◌↔◌, ℕ, ◌≤◌, true, false, List, length, Ok, Err, ◌⊎◌}
use Rattle.script_lang.specs.declared.types.Run.{Run}
use Rattle.script_lang.specs.declared.types.Script.{Script}
use Rattle.script_lang.specs.declared.types.Step.{Step}
use Rattle.script_lang.specs.Asks.{step_of}
use Rattle.mas_types.specs.declared.answers.LineCause.{LineCause}
use Rattle.mas_types.specs.declared.answers.LineCause.TheVariants as cause
use Rattle.mas_types.specs.Limits.{script_bytes, steps_most}
use Rattle.script_lang.specs.declared.types.ScriptNo.TheVariants as no
use Rattle.script_lang.specs.Lines.{lines_of}
use Rattle.script_lang.specs.Script.{said}
use Rattle.script_laws.specs.Grammar.{IsLineOf, MayRace}
use Rattle.script_laws.specs.Limits.{IsScript}
use Rattle.script_laws.specs.Refused.{IsCutOff, IsFirstOutside}
use Rattle.script_laws.specs.Whole.{IsScriptOf}

-- what a script says is within the limits
abbrev pub SaysWithinLimits : Type 0
SaysWithinLimits = (run : Run) (bytes : List ℕ) (script : Script) → said run bytes ≡ Ok script → IsScript script

-- words are read as a step exactly where they are a line of that step, and where it may stand in a race if this is one
abbrev pub ReadsLines : Type 0
ReadsLines = (run : Run) (words : List (List ℕ)) (step : Step)
    → (step_of run words ≡ Ok step) ↔ (IsLineOf words step × (run.only ≡ false) × (run.race ≡ true → MayRace step.what))

-- bytes are read as a script exactly where they are at most 16,777,216 and their lines are lines of that script, which
-- has at most 99,999 steps
abbrev pub ReadsScripts : Type 0
ReadsScripts = (run : Run) (bytes : List ℕ) (script : Script)
    → (said run bytes ≡ Ok script) ↔
    ((length bytes ≤ script_bytes) × (length script.steps ≤ steps_most) × IsScriptOf run (lines_of bytes) script)

-- A line is refused by the cause End only where it begins a deck that is cut off, and by another cause only where it is
-- the first line with which no script may begin
abbrev pub RefusesFirst : Type 0
RefusesFirst = (run : Run) (bytes : List ℕ) (number : ℕ) (why : LineCause)
    → said run bytes ≡ Err (no.BadLine number why) → ((why ≡ cause.End) × IsCutOff run (lines_of bytes) number)
    ⊎ IsFirstOutside run (lines_of bytes) number
