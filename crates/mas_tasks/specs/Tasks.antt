-- What the words ask for.
use Rattle.std.specs.Prelude.{ℕ, Bool, List, Option, Some, None, option_and_then}
use Rattle.mas_words.specs.declared.types.Verb.{Verb}
use Rattle.mas_words.specs.declared.types.Verb.TheVariants as verb
use Rattle.mas_words.specs.declared.types.Words.{Words}
use Rattle.mas_words.specs.declared.types.WordsNo.{WordsNo}
use Rattle.mas_words.specs.declared.types.WordsNo.TheVariants as no_words
use Rattle.mas_types.specs.declared.answers.Status.{Status}
use Rattle.mas_types.specs.declared.answers.Status.TheVariants as status
use Rattle.mas_words.specs.Words.{words_of}
use Rattle.mas_tasks.specs.declared.tasks.Task.{Task}
use Rattle.mas_tasks.specs.declared.tasks.Task.TheVariants as task

abbrev pub task_by : Bool → Verb → Option Task
task_by cold verb.Play = Some (task.Play cold)
task_by cold verb.Report = Some task.Report
task_by cold verb.Format = Some task.Format
task_by cold verb.Check = Some task.Check
task_by cold (verb.Generate decks) = Some (task.Generate decks)
task_by cold verb.Race = None

abbrev pub task_of : Words → Option Task
task_of words = task_by words.cold words.verb

-- what the texts behind the program's name ask for; none where they are none of its words, or ask for a race
abbrev pub task_asked : List (List ℕ) → Option Task
task_asked texts = option_and_then task_of (words_of texts)

-- the status of a run whose words aren't read
abbrev pub status_of_no : WordsNo → Status
status_of_no no_words.Words = status.Words
status_of_no no_words.NoMemory = status.NoMemory

-- the words ask for a race, cold or warm
abbrev pub race_by : Bool → Verb → Option Bool
race_by cold verb.Race = Some cold
race_by cold _ = None

abbrev pub race_of : Words → Option Bool
race_of words = race_by words.cold words.verb

abbrev pub race_asked : List (List ℕ) → Option Bool
race_asked texts = option_and_then race_of (words_of texts)
