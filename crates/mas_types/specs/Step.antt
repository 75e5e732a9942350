-- One command of a member: the queue that it leaves, and its reply.
use Rattle.std.specs.Prelude.{◌==◌, Bool, true, false}
use Rattle.mas_types.specs.declared.ids.MemberId.{MemberId}
use Rattle.mas_types.specs.declared.commands.Command.{Command}
use Rattle.mas_types.specs.declared.commands.Command.TheVariants as command
use Rattle.mas_types.specs.declared.commands.Reply.{Reply}
use Rattle.mas_types.specs.declared.queues.Queue.{Queue}
use Rattle.mas_types.specs.Queue.{is_member}
use Rattle.mas_types.specs.Row.{Row, done}
use Rattle.mas_types.specs.Commands.Input.{begin_row, take_row, drop_row, enter_row}
use Rattle.mas_types.specs.Commands.Life.{take_convert_row, converted_row, take_exec_row, ended_row, gather_row, purge_row}
use Rattle.mas_types.specs.Commands.Printing.{pick_row, mark_row, done_row, back_row, forward_row}
use Rattle.mas_types.specs.Commands.Operator.{held_row, cancel_row, set_prio_row, set_class_row, out_row, cancel_out_row, set_out_row}
use Rattle.mas_types.specs.Commands.Members.{set_init_row, set_prt_row, reset_row, restart_row}
use Rattle.mas_types.specs.Commands.Wire.{load_row, sent_row, got_row}
use Rattle.mas_types.specs.Shown.{show_row}

-- the row of the table for a command
abbrev pub row_of : Queue → MemberId → Command → Row
row_of Q m (command.Begin fields) = begin_row Q m fields
row_of Q m (command.Take want) = take_row Q m want
row_of Q m (command.Drop job) = drop_row Q m job
row_of Q m (command.Enter job text) = enter_row Q m job text
row_of Q m command.TakeConvert = take_convert_row Q m
row_of Q m (command.Converted job) = converted_row Q m job
row_of Q m command.TakeExec = take_exec_row Q m
row_of Q m (command.Ended job specs) = ended_row Q m job specs
row_of Q m command.Gather = gather_row Q
row_of Q m command.Pick = pick_row Q m
row_of Q m (command.Mark job index at) = mark_row Q m job index at
row_of Q m (command.Done job index) = done_row Q m job index
row_of Q m command.Purge = purge_row Q
row_of Q m (command.Hold job) = held_row Q job true
row_of Q m (command.Release job) = held_row Q job false
row_of Q m (command.Cancel job) = cancel_row Q m job
row_of Q m (command.SetPrio job prio) = set_prio_row Q job prio
row_of Q m (command.SetClass job class) = set_class_row Q job class
row_of Q m (command.Out job) = out_row Q job
row_of Q m (command.CancelOut job index) = cancel_out_row Q m job index
row_of Q m (command.SetOut job index class) = set_out_row Q m job index class
row_of Q m (command.Show what) = show_row Q what
row_of Q m (command.SetInit classes) = set_init_row Q m classes
row_of Q m (command.SetPrt classes forms lines) = set_prt_row Q m classes forms lines
row_of Q m (command.Back lines) = back_row Q m lines
row_of Q m (command.Forward lines) = forward_row Q m lines
row_of Q m (command.Reset of_member) = reset_row Q of_member
row_of Q m command.Restart = restart_row Q
row_of Q m (command.Load line) = load_row Q line
row_of Q m (command.Sent line number) = sent_row Q line number
row_of Q m (command.Got line number job text) = got_row Q m line number job text

-- the queue after the command, and the reply
abbrev pub step : Queue → MemberId → Command → Queue × Reply
step Q m c = done Q (row_of Q m c)

-- who may give the command: Restart the operator alone, any other a member of the configuration
abbrev pub may_give : Queue → MemberId → Command → Bool
may_give Q m command.Restart = m.0 == 0
may_give Q m _ = is_member Q.config m
