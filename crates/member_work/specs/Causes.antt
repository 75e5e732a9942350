-- Why a step of work closes as it does, by what each plant tells: which of its parts are lost, and how often they
-- failed.
use Rattle.member_work.specs.Names.{MemberId, Closing, View, IsFoundLost}
use Rattle.std.specs.Prelude.{Some}
use Rattle.mas_types.specs.declared.answers.Closing.TheVariants as closing
use Rattle.mas_types.specs.declared.commands.Reply.TheVariants as reply
use Rattle.job_outcome.specs.declared.units.UnitEnd.TheVariants as ends
use Rattle.member_work.specs.Rounds.{HasPrinterFailed}

-- How a unit may be refused in a call: as its last command was, at a text that is gone, or where a volume or the
-- member's printer was found lost, which failed in the call. In no other way.
abbrev pub MayRefuse : MemberId → Closing → View → View → Type 0
MayRefuse by (closing.Reply (reply.No why)) old new = Unit {0}
MayRefuse by (closing.NoText group) old new = Unit {0}
MayRefuse by (closing.SpoolLost volume) old new = IsFoundLost (Some volume) old new
MayRefuse by closing.PrinterLost old new = HasPrinterFailed by old new
MayRefuse by _ old new = ⊥
