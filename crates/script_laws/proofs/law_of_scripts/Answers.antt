use Rattle.std.proofs.Common.{◌≡◌, ℕ, ◌≤◌, nat_lt, List, length, Ok, Err}
use Rattle.std.proofs.lemmas.Bool.{ltb-false, le-ltb, cond-false}
use Rattle.std.proofs.Common.{◌∙◌}
use Rattle.mas_types.specs.Limits.{script_bytes, steps_most}
use Rattle.operator_cmds.specs.Laws.{ComputesCommands}
use Rattle.script_lang.specs.declared.types.Run.{Run}
use Rattle.script_lang.specs.declared.types.Script.{Script}
use Rattle.script_lang.specs.declared.types.ScriptNo.TheVariants as no
use Rattle.script_lang.specs.Lines.{lines_of}
use Rattle.script_lang.specs.Script.{said, said_from, start}
use Rattle.script_laws.specs.Whole.{IsScriptOf}
use Rattle.script_laws.proofs.ByCases.{if_ok, not_ok}
use Rattle.script_laws.proofs.ScriptFits.{script-within}
use Rattle.script_laws.proofs.ScriptReads.{script_read}
use Rattle.script_laws.proofs.ScriptSays.{script_said}
use Rattle.script_laws.proofs.law_of_scripts.Goals as goal

-- what a script that is read keeps to
abbrev IsRead : Run → List ℕ → Script → Type 0
IsRead run bytes script = (length bytes ≤ script_bytes) × (length script.steps ≤ steps_most) × IsScriptOf run (lines_of bytes) script

is_read : ComputesCommands → (run : Run) (bytes : List ℕ) (script : Script) → said run bytes ≡ Ok script → IsRead run bytes script
is_read computes run bytes script e =
    if_ok (nat_lt script_bytes (length bytes)) _ _ script (IsRead run bytes script)
    (λ is e. not_ok no.TooLong script (IsRead run bytes script) e)
    (λ is read. (ltb-false script_bytes (length bytes) is, (script-within computes run bytes script e).short, script_read computes run 1 (lines_of bytes) script read)) e

is_said : ComputesCommands → (run : Run) (bytes : List ℕ) (script : Script) → IsRead run bytes script → said run bytes ≡ Ok script
is_said computes run bytes script is =
    cond-false (nat_lt script_bytes (length bytes)) (Err no.TooLong) (said_from run 1 start (lines_of bytes)) (le-ltb script_bytes (length bytes) is.0)
    ∙ script_said computes run 1 (lines_of bytes) script is.2 is.1

pub returns : goal.returns
returns c run bytes script = (is_read c.law_of_commands.ensures run bytes script, is_said c.law_of_commands.ensures run bytes script)
