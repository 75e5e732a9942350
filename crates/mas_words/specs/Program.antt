-- The program as a command of `clap`: what a parse reads of it.
use Rattle.std.specs.Prelude.{◌≡◌, ℕ, Bool, true, false, ◌&&◌, List, [], ◌∷◌, Option, Some, None, option_and_then, if◌then◌else◌, codes}
use Rattle.std.specs.Str.{bytes_eq}
use Rattle.clap.specs.Simple.{App, app_of, new_app, new_rule, new_shape, with_rule, with_subcommand}
use Rattle.clap.specs.declared.builder.command.Command.TheViews.{out-Command as fields_of}
use Rattle.clap.specs.Walk.{Row, Rule, first_of}
use Rattle.clap.specs.declared.builder.command.Command.{Command as Parser}
use Rattle.clap.specs.declared.builder.action.ArgAction.TheVariants.{SetTrue}
use Rattle.mas_words.specs.Words.{Command, Given, Text, command_of, generate, is_folder, is_number, takes_cold, verb_of, words_with}
use Rattle.mas_words.specs.declared.types.Verb.{Verb}
use Rattle.mas_words.specs.declared.types.Verb.TheVariants as verb
use Rattle.mas_types.specs.Numerals.{value_of}
use Rattle.mas_words.specs.declared.types.Words.{Words}

abbrev pub dir_arg : Rule
dir_arg = record (new_rule (codes "dir")) { long = Some (codes "dir") }

abbrev pub cold_arg : Rule
cold_arg = record (new_rule (codes "cold")) { long = Some (codes "cold"); action = Some SetTrue }

abbrev pub number_arg : Rule
number_arg = record (new_rule (codes "n")) { required = true }

abbrev pub dir_app : Text → App
dir_app name = with_rule (new_app name) dir_arg

abbrev pub cold_app : Text → App
cold_app name = with_rule (dir_app name) cold_arg

abbrev pub number_app : Text → App
number_app name = with_rule (dir_app name) number_arg

-- the program without its commands
abbrev pub bare_app : App
bare_app = record {
  top = record (new_shape (codes "mas")) {
    no_binary_name = true;
    disable_help_flag = true;
    disable_help_subcommand = true;
    subcommand_required = true;
  };
  subs = [];
}

abbrev pub with_commands : App → List App → App
with_commands app [] = app
with_commands app (command ∷ rest) = with_commands (with_subcommand app command.top) rest

abbrev pub program_app : App
program_app = with_commands bare_app (cold_app (codes "play") ∷ cold_app (codes "race") ∷ dir_app (codes "format")
    ∷ dir_app (codes "report") ∷ dir_app (codes "check") ∷ number_app (codes "generate") ∷ [])

-- a command of `clap` is this one, and has no argument for all its subcommands
abbrev pub IsApp : App → Parser → Type 0
IsApp app command = (app_of command ≡ app) × ((fields_of command).has_globals ≡ false)

-- what the code reads of the matches
abbrev pub folder_of : Option Text → Option Text
folder_of None = Some []
folder_of (Some dir) = if is_folder dir then Some dir else None

abbrev pub number_of : Option Text → Option ℕ
number_of None = None
number_of (Some text) = if is_number text then Some (value_of text) else None

abbrev pub is_set : Option Text → Bool
is_set None = false
is_set (Some text) = bytes_eq text (codes "true")

abbrev pub is_cold_verb : Verb → Bool
is_cold_verb verb.Play = true
is_cold_verb verb.Race = true
is_cold_verb _ = false

abbrev pub takes_number : Command → Bool
takes_number generate = true
takes_number _ = false

abbrev pub given_by : Command → List Row → Given
given_by command rows = record {
  cold = takes_cold command && is_set (first_of (codes "cold") rows);
  dir = first_of (codes "dir") rows;
  number = if takes_number command then first_of (codes "n") rows else None;
  is_due = false;
}

abbrev pub words_by : Command → List Row → Option Words
words_by command rows = words_with command (given_by command rows)

abbrev pub verb_by : Command → List Row → Option Verb
verb_by command rows = verb_of command (given_by command rows).number

-- the words of the subcommand that was met, with its matches
abbrev pub words_met : Text → List Row → Option Words
words_met name rows = option_and_then (λ command. words_by command rows) (command_of name)
