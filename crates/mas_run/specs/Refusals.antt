-- What is refused before anything is played.
use Rattle.mas_run.specs.Names.{Status, Script, Step, View, refusal_of}
use Rattle.std.specs.Prelude.{◌≡◌, ℕ, Bool, false, List, [], Option, Ok, Err}
use Rattle.script_lang.specs.declared.types.Run.{Run}
use Rattle.script_lang.specs.Script.{Said}
use Rattle.script_input.specs.Script.{read_as}

-- a run, cold or warm, that isn't a race; where it only formats it takes no steps
abbrev pub calm : Bool → Bool → Run
calm cold only = record { cold = cold; race = false; only = only }

-- what a script says to such a run: a configuration, routes and steps, or that a line is refused
abbrev pub said_by : Bool → Bool → List ℕ → Said
said_by cold only script = read_as (calm cold only) script

-- the steps that a script's bytes say: none where a line is refused
abbrev pub steps_of : Said → List Step
steps_of (Ok script) = script.steps
steps_of (Err why) = []

-- the first that applies to the script and the devices, before the run
abbrev pub refusal_before_play : Bool → Bool → List ℕ → View → Option Status
refusal_before_play cold only script v = refusal_of cold v (said_by cold only script)

-- these bytes say just this script
abbrev pub IsSaid : Bool → Bool → List ℕ → Script → Type 0
IsSaid cold only bytes script = said_by cold only bytes ≡ Ok script
