-- What is true of all scripts.
use Rattle.std.specs.Prelude.{◌≡◌, ℕ, true, Ok, List, All}
use Rattle.script_lang.specs.declared.types.Ask.{Ask}
use Rattle.script_lang.specs.declared.types.Ask.TheVariants as ask
use Rattle.script_lang.specs.declared.types.Run.{Run}
use Rattle.script_lang.specs.declared.types.Script.{Script}
use Rattle.script_lang.specs.Script.{said}
use Rattle.script_input.specs.Commands.{is_typed}

-- a command is one that an operator types
abbrev pub IsTypedIn : Ask → Type 0
IsTypedIn (ask.Command given) = is_typed given ≡ true
IsTypedIn _ = Unit {0}

-- a script gives no other commands than those that an operator types
abbrev pub TypesCommands : Type 0
TypesCommands = (run : Run) (bytes : List ℕ) (script : Script) → said run bytes ≡ Ok script
    → All (λ step. IsTypedIn step.what) script.steps
