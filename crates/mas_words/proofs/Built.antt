-- The program as `clap` builds it.
use Rattle.std.proofs.Common.{◌≡◌, ◌∙◌, ◌||◌, Bool, ap, ap₂, ℕ, List, [], ◌∷◌, Some, true, false, codes, refl}
use Rattle.clap.specs.Simple.{App, Shape, built, is_simple, new_shape, with_subcommand}
use Rattle.clap.specs.Built.{AddsSubcommand}
use Rattle.clap.specs.declared.builder.command.Command.{Command as Parser}
use Rattle.clap.specs.Walk.{Rule}
use Rattle.clap.specs.Faults.{is_simple_and_free}
use Rattle.clap.specs.declared.builder.action.ArgAction.TheVariants.{Set}
use Rattle.clap.specs.declared.builder.range.ValueRange.{ValueRange}
use Rattle.clap.specs.declared.builder.value_parser.ValueParser.TheVariants as vp
use Rattle.mas_words.specs.Words.{Text, Command, play, race, format, report, check, generate}
use Rattle.mas_words.specs.Program.{IsApp, cold_arg, dir_arg, number_arg, program_app}

-- a use has this many values
abbrev pub exactly : ℕ → ValueRange
exactly n = record { start_inclusive = n; end_inclusive = n }

abbrev pub dir_rule : Rule
dir_rule = record dir_arg { action = Some Set; range = Some (exactly 1); parser = Some vp.String }

abbrev pub cold_rule : Rule
cold_rule = record cold_arg {
  defaults = codes "false" ∷ [];
  missing = codes "true" ∷ [];
  range = Some (exactly 0);
  parser = Some vp.Bool;
}

abbrev pub number_rule : Rule
number_rule = record number_arg { action = Some Set; range = Some (exactly 1); parser = Some vp.String; index = Some 1 }

-- what a command takes besides a folder
pub data Form : Type 0 where
  bare : Form
  colds : Form
  numbers : Form

abbrev pub rules : Form → List Rule
rules bare = dir_rule ∷ []
rules colds = dir_rule ∷ cold_rule ∷ []
rules numbers = dir_rule ∷ number_rule ∷ []

abbrev pub shape : Form → Text → Shape
shape f name = record (new_shape name) {
  rules = rules f;
  no_binary_name = true;
  disable_help_flag = true;
  disable_help_subcommand = true;
  is_built = true;
}

abbrev pub top : Shape
top = record (new_shape (codes "mas")) {
  is_leaf = false;
  no_binary_name = true;
  disable_help_flag = true;
  disable_help_subcommand = true;
  subcommand_required = true;
  is_built = true;
}

abbrev pub form_of : Command → Form
form_of play = colds
form_of race = colds
form_of format = bare
form_of report = bare
form_of check = bare
form_of generate = numbers

abbrev pub name_of : Command → Text
name_of play = codes "play"
name_of race = codes "race"
name_of format = codes "format"
name_of report = codes "report"
name_of check = codes "check"
name_of generate = codes "generate"

abbrev pub shape_of_command : Command → Shape
shape_of_command c = shape (form_of c) (name_of c)

abbrev pub subs : List Shape
subs = shape_of_command play ∷ shape_of_command race ∷ shape_of_command format ∷ shape_of_command report
    ∷ shape_of_command check ∷ shape_of_command generate ∷ []

abbrev pub built_program : App
built_program = record { top = top; subs = subs }

pub program_built : built program_app ≡ built_program
program_built = refl

pub program_simple : is_simple_and_free program_app ≡ true
program_simple = refl

pub program_is_simple : is_simple program_app ≡ true
program_is_simple = refl

-- a subcommand more
pub added : (a s : App) (old sub new : Parser) → IsApp a old → IsApp s sub → AddsSubcommand old sub new → IsApp (with_subcommand a s.top) new
added a s old sub new old_is sub_is adds = (
  adds.shape sub_is.1 ∙ ap₂ with_subcommand old_is.0 (ap (λ (app : App). app.top) sub_is.0),
  adds.globals ∙ ap₂ (λ (b c : Bool). b || c) old_is.1 sub_is.1,
)
