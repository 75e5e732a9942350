-- How a job ends in a unit of work: Take of the groups that its outputs need, as often as needed, and Ended once their
-- texts stand in them. After a refused Take or Ended, or where a volume of a group is lost, Drop of the member's
-- groups. And how a chunk of lines ends.
use Rattle.std.specs.Prelude.{ℕ, ◌+◌, min, Bool, true, false, if◌then◌else◌, List, [], ◌∷◌, ◌++◌, Option, Some, None}
use Rattle.mas_types.specs.declared.ids.MemberId.{MemberId}
use Rattle.mas_types.specs.declared.ids.JobNo.{JobNo}
use Rattle.mas_types.specs.declared.answers.Closing.{Closing}
use Rattle.mas_types.specs.declared.answers.Closing.TheVariants as closing
use Rattle.mas_types.specs.declared.commands.Command.{Command}
use Rattle.mas_types.specs.declared.commands.Command.TheVariants as command
use Rattle.mas_types.specs.declared.commands.Reply.{Reply}
use Rattle.mas_types.specs.declared.jobs.OutSpec.{OutSpec}
use Rattle.mas_types.specs.declared.jobs.Output.{Output}
use Rattle.mas_types.specs.declared.queues.Queue.{Queue}
use Rattle.mas_types.specs.Commands.Life.{groups_of_outputs, outputs_at_end}
use Rattle.mas_types.specs.Ids.{no_number}
use Rattle.mas_types.specs.Queue.{job_at, total}
use Rattle.queue_laws.specs.Laws.{is_refusal}
use Rattle.paper_laws.specs.Next.{limit_of}
use Rattle.job_outcome.specs.declared.outcomes.Read.{Read}
use Rattle.job_outcome.specs.declared.outcomes.Read.TheVariants as read
use Rattle.step_turns.specs.Entries.{reply_to}
use Rattle.step_turns.specs.Decks.{are_refused, takes}

-- the groups that Ended needs of the member: none for a cancelled job
abbrev pub groups_for_end : Queue → JobNo → List OutSpec → ℕ
groups_for_end Q n specs = groups_of_outputs (outputs_at_end (job_at Q n) specs)

-- the member's groups become Free
abbrev pub drop_groups : Command
drop_groups = command.Drop no_number

-- Take of the groups, as often as needed; Drop after a refused one
abbrev pub taking : Queue → MemberId → ℕ → List Command
taking Q by needed = takes needed Q by needed ++ (if are_refused needed Q by needed then drop_groups ∷ [] else [])

-- Ended, and after a refused one Drop
abbrev pub ended_as : Reply → Command → List Command
ended_as answer c = c ∷ (if is_refusal answer then drop_groups ∷ [] else [])

abbrev pub ending : Queue → MemberId → JobNo → List OutSpec → List Command
ending Q by n specs = ended_as (reply_to Q by (command.Ended n specs)) (command.Ended n specs)

-- PRINTING

-- the last line that is printed next: as many after the mark as the member's printer prints at a time, but none above
-- the total
abbrev pub chunk_end : Queue → MemberId → Output → ℕ
chunk_end Q by o = min (o.mark + limit_of Q by) (total o)

-- how the unit is refused once the text was read and the lines were to be printed; None where each of them stands on
-- paper
abbrev pub printed_end : Bool → Read → Option Closing
printed_end lost (read.Gone group) = Some (closing.NoText group)
printed_end lost (read.Lost volume) = Some (closing.SpoolLost volume)
printed_end true (read.Lines lines) = Some closing.PrinterLost
printed_end false (read.Lines lines) = None
