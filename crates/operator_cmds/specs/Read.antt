-- What reading a command comes to.
use Rattle.std.specs.Prelude.{◌≡◌, Option, Some, None, Result, Ok, Err}
use Rattle.mas_types.specs.declared.commands.Command.{Command}
use Rattle.operator_cmds.specs.declared.reading.CommandNo.{CommandNo}
use Rattle.operator_cmds.specs.declared.reading.CommandNo.TheVariants.{BadCommand, NoMemory}

-- the command was read, or memory ran out
abbrev pub IsReadAs : Result Command CommandNo → Command → Type 0
IsReadAs (Ok found) typed = found ≡ typed
IsReadAs (Err (BadCommand n)) typed = ⊥
IsReadAs (Err NoMemory) typed = Unit {0}

-- the command was read where there is one, and else the text was refused; or memory ran out
abbrev pub ComesTo : Result Command CommandNo → Option Command → Type 0
ComesTo (Ok found) typed = typed ≡ Some found
ComesTo (Err (BadCommand n)) typed = typed ≡ None
ComesTo (Err NoMemory) typed = Unit {0}
