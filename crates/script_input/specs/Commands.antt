-- Which commands an operator types.
use Rattle.std.specs.Prelude.{Bool, true, false}
use Rattle.mas_types.specs.declared.commands.Command.{Command}
use Rattle.mas_types.specs.declared.commands.Command.TheVariants as command

abbrev pub is_typed : Command → Bool
is_typed (command.Hold job) = true
is_typed (command.Release job) = true
is_typed (command.Cancel job) = true
is_typed (command.SetPrio job prio) = true
is_typed (command.SetClass job class) = true
is_typed (command.Out job) = true
is_typed (command.CancelOut job index) = true
is_typed (command.SetOut job index class) = true
is_typed (command.Show what) = true
is_typed (command.SetInit classes) = true
is_typed (command.SetPrt classes forms lines) = true
is_typed (command.Back lines) = true
is_typed (command.Forward lines) = true
is_typed (command.Reset m) = true
is_typed _ = false
