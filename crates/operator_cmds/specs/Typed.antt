-- Which command a text is, computed.
use Rattle.std.specs.Prelude.{ℕ, if◌then◌else◌, List, [], ◌∷◌, Option, Some, None, is_none, option_map}
use Rattle.mas_types.specs.declared.commands.Command.{Command}
use Rattle.operator_cmds.specs.declared.forms.Form.{Form}
use Rattle.operator_cmds.specs.declared.forms.TheConstants.{FORMS}
use Rattle.operator_cmds.specs.Forms.{form_text}
use Rattle.operator_cmds.specs.Walks.{stop, text_in}
use Rattle.operator_cmds.specs.Spellings.{command_of}

-- the first of some forms that all of the text follows
abbrev pub form_in : List Form → List ℕ → Option Form
form_in [] text = None
form_in (f ∷ forms) text = if is_none (stop (form_text f) text) then Some f else form_in forms text

-- the command of a form with what the text has in the places of its letters
abbrev pub command_at : List ℕ → Form → Command
command_at text f = command_of f (text_in (form_text f) text)

-- the command that is typed so, none where the text is no command
unfoldable pub command_in : List ℕ → Option Command
command_in text = option_map (command_at text) (form_in FORMS text)
