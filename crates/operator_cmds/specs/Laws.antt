-- What is true of all texts.
use Rattle.std.specs.Prelude.{◌≡◌, ◌↔◌, ℕ, List, Some}
use Rattle.mas_types.specs.declared.commands.Command.{Command}
use Rattle.operator_cmds.specs.Spellings.{IsSpelling}
use Rattle.operator_cmds.specs.Typed.{command_in}

-- a text is computed to be a command exactly where it is a spelling of it
abbrev pub ComputesCommands : Type 0
ComputesCommands = (text : List ℕ) (typed : Command) → (command_in text ≡ Some typed) ↔ (IsSpelling typed text)
