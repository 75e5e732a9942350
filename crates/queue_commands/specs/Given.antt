-- Which commands are given to tables, and by whom.
use Rattle.std.specs.Prelude.{◌≡◌, ◌≤◌, ◌<◌, ◌^◌, Bool, true, false, All}
use Rattle.mas_types.specs.declared.ids.MemberId.{MemberId}
use Rattle.mas_types.specs.declared.commands.Command.{Command}
use Rattle.mas_types.specs.declared.commands.Command.TheVariants as command
use Rattle.mas_types.specs.Limits.{members_most}
use Rattle.lay_bytes.specs.Limits.{copies_most}

-- who may give the command: Restart the operator alone, any other a member
abbrev pub IsGiver : MemberId → Command → Type 0
IsGiver m command.Restart = m.0 ≡ 0
IsGiver m _ = (1 ≤ m.0) × (m.0 ≤ members_most)

-- the command brings no text
abbrev pub is_plain : Command → Bool
is_plain (command.Enter job text) = false
is_plain (command.Ended job specs) = false
is_plain (command.Got line number job text) = false
is_plain _ = true

-- the numbers that a command carries are within the ranges of their types
abbrev pub IsInRange : Command → Type 0
IsInRange (command.Ended job specs) = All (λ s. s.copies ≤ copies_most) specs
IsInRange (command.Sent line number) = number < 2 ^ 32
IsInRange (command.Got line number job text) = number < 2 ^ 32
IsInRange _ = Unit {0}
