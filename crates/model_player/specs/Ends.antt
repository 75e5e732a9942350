-- How steps close.
use Rattle.mas_types.specs.declared.answers.Closing.{Closing}
use Rattle.mas_types.specs.declared.answers.Closing.TheVariants as closing
use Rattle.mas_types.specs.declared.commands.Reply.{Reply}
use Rattle.mas_types.specs.declared.commands.Reply.TheVariants as reply
use Rattle.mas_types.specs.Closings.{AreMembersNamed}
use Rattle.model_player.specs.declared.ends.End.{End}
use Rattle.model_player.specs.declared.ends.End.TheVariants as ends

-- the end as a step closes with it
abbrev pub closing_of : End → Closing
closing_of ends.Plain = closing.Reply reply.Plain
closing_of (ends.Job job) = closing.Reply (reply.Job job)
closing_of (ends.Count n) = closing.Reply (reply.Count n)
closing_of (ends.Refused why) = closing.Reply (reply.No why)
closing_of (ends.Units n) = closing.DoneUnits n
closing_of (ends.NoText group) = closing.NoText group
closing_of (ends.BadCard card cause) = closing.BadCard card cause
closing_of (ends.Busy holder) = closing.Busy holder
closing_of (ends.Dormant tick) = closing.Dormant tick
closing_of (ends.Up m) = closing.Up m
closing_of (ends.Reset m) = closing.ResetOf m
closing_of ends.NotHolder = closing.NotHolder
closing_of ends.Down = closing.Down
closing_of ends.Stopped = closing.Stopped

-- the members that it names are within the limits
abbrev pub IsNamed : End → Type 0
IsNamed end = AreMembersNamed (closing_of end)

-- the end of a command with this reply, without the lines of a display
abbrev pub end_of : Reply → End
end_of (reply.Job job) = ends.Job job
end_of (reply.Count n) = ends.Count n
end_of (reply.No why) = ends.Refused why
end_of _ = ends.Plain
