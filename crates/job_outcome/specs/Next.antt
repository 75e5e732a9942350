-- How a unit of a member's work ends.
use Rattle.mas_types.specs.declared.answers.Closing.TheVariants as closing
use Rattle.mas_types.specs.declared.commands.Reply.{Reply}
use Rattle.mas_types.specs.declared.commands.Reply.TheVariants as reply
use Rattle.mas_types.specs.Closings.{AreMembersNamed}
use Rattle.job_outcome.specs.declared.units.UnitEnd.{UnitEnd}
use Rattle.job_outcome.specs.declared.units.UnitEnd.TheVariants as ends

-- the unit is done, or refused as its command was
abbrev pub end_by : Reply → UnitEnd
end_by (reply.No why) = ends.Refused (closing.Reply (reply.No why))
end_by _ = ends.Done

-- the members that a refusal names are within the limits
abbrev pub IsNamedEnd : UnitEnd → Type 0
IsNamedEnd (ends.Refused end) = AreMembersNamed end
IsNamedEnd _ = Unit {0}
