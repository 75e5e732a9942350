-- What the program does with its folder.
use Rattle.std.specs.Prelude.{Bool, true, false, Option, Some, None}
use Rattle.mas_words.specs.declared.types.Words.{Words}
use Rattle.mas_top.specs.Tasks.{race_of, task_of}
use Rattle.mas_top.specs.Task.{Task}
use Rattle.mas_top.specs.Task.TheVariants as task
use Rattle.plant_files.specs.declared.hold.Opening.{Opening}
use Rattle.plant_files.specs.declared.hold.Opening.TheVariants as opening

-- only a run that formats makes its folder, and a report and a check make nothing
abbrev pub opening_for : Task → Opening
opening_for (task.Play true) = opening.Make
opening_for (task.Play false) = opening.GoOn
opening_for task.Report = opening.Look
opening_for task.Format = opening.Make
opening_for task.Check = opening.Look
opening_for (task.Generate decks) = opening.Make

-- of a race, cold or warm, or else of a task
abbrev pub opening_asked : Option Bool → Option Task → Option Opening
opening_asked (Some cold) t = Some (opening_for (task.Play cold))
opening_asked None (Some t) = Some (opening_for t)
opening_asked None None = None

abbrev pub opening_of_words : Words → Option Opening
opening_of_words words = opening_asked (race_of words) (task_of words)
