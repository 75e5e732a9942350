-- What a script says to a race, and what is refused before it.
use Rattle.std.specs.Prelude.{ℕ, ◌≡◌, Bool, true, false, List, Option, Ok}
use Rattle.mas_types.specs.declared.answers.Status.{Status}
use Rattle.script_input.specs.Script.{read_as}
use Rattle.script_lang.specs.Script.{Said}
use Rattle.script_lang.specs.declared.types.Run.{Run}
use Rattle.script_lang.specs.declared.types.Script.{Script}
use Rattle.spool_plant.specs.View.{View}
use Rattle.run_opening.specs.Refusals.{refusal_of}

-- a race, cold or warm
abbrev pub race_of : Bool → Run
race_of cold = record { cold = cold; race = true; only = false }

-- what a script says to it: a configuration, routes and steps, or that a line is refused
abbrev pub raced_by : Bool → List ℕ → Said
raced_by cold script = read_as (race_of cold) script

-- these bytes say just this script
abbrev pub IsSaid : Bool → List ℕ → Script → Type 0
IsSaid cold bytes script = raced_by cold bytes ≡ Ok script

-- the first refusal that applies to the script and the devices, before the race
abbrev pub refusal_before_race : Bool → List ℕ → View → Option Status
refusal_before_race cold script v = refusal_of cold v (raced_by cold script)
