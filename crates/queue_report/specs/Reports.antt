-- What a report says of a queue.
use Rattle.std.specs.Prelude.{ℕ, List, [], ◌∷◌, ◌++◌, codes}
use Rattle.mas_types.specs.declared.commands.What.TheVariants as what
use Rattle.mas_types.specs.declared.commands.Reply.{Reply}
use Rattle.mas_types.specs.declared.commands.Reply.TheVariants as reply
use Rattle.mas_types.specs.declared.queues.Queue.{Queue}
use Rattle.mas_types.specs.Shown.{shown}

-- the lines that a reply shows, none where it is no display's
abbrev pub shown_in : Reply → List (List ℕ)
shown_in (reply.Shown lines) = lines
shown_in _ = []

-- the displays of jobs, outputs, spool volumes and members, and a last line
abbrev pub report_lines : Queue → List (List ℕ)
report_lines Q = shown Q what.Queue ++ shown Q what.Outputs ++ shown Q what.Spool ++ shown Q what.Members ++ codes "END" ∷ []
