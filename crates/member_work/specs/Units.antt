-- The units of a member's work, and what each gives: its commands, and how it ends.
use Rattle.member_work.specs.Names.{MemberId, JobNo, OutNo, Closing, Command, Reply, Job, OutSpec, Output, Entry, Queue, groups_of_outputs, outputs_at_end, no_number, job_at, output_at, total, limit_of, run, entry_of, reply_to, are_refused, closing_reply, given_in, takes, Read, UnitEnd, end_by}
use Rattle.std.specs.Prelude.{ℕ, zero, suc, ◌+◌, min, Bool, true, false, if◌then◌else◌, List, [], ◌∷◌, ◌++◌, Option, Some, None}
use Rattle.std.specs.Option.{option_map_or}
use Rattle.mas_types.specs.declared.answers.Closing.TheVariants as closing
use Rattle.mas_types.specs.declared.commands.Command.TheVariants as command
use Rattle.mas_types.specs.declared.units.Unit as units
use Rattle.mas_types.specs.declared.units.Unit.TheVariants as unit
use Rattle.mas_types.specs.Units.{unit_of}
use Rattle.queue_laws.specs.Laws.{is_refusal}
use Rattle.job_outcome.specs.declared.outcomes.Outcome.{Outcome}
use Rattle.job_outcome.specs.declared.outcomes.Outcome.TheVariants as outcome
use Rattle.job_outcome.specs.declared.outcomes.Read.TheVariants as read
use Rattle.job_outcome.specs.declared.units.UnitEnd.TheVariants as ends
use Rattle.job_outcome.specs.Outcomes.{outcome_of}
use Rattle.member_work.specs.Looks.{Look, read_of}

-- WHAT BECOMES OF A JOB WHOSE TEXT WAS READ

abbrev pub outcome_for : Bool → Look → Job → Outcome
outcome_for runs look j = outcome_of runs j.fields (read_of look.read j.text)

-- WHAT A UNIT GIVES

-- The entries that a unit gives in each part of it, between two of which the lock is given up for acts on the spool
-- volumes and the printer; and how the unit ends.
pub record UnitPlay : Type 0 where
  pub parts : List (List Entry)
  pub ends : UnitEnd

-- a unit of one command
abbrev pub one_command : Queue → MemberId → ℕ → Command → UnitPlay
one_command Q by at c = record { parts = (entry_of Q by at c ∷ []) ∷ []; ends = end_by (reply_to Q by c) }

-- no unit applies
abbrev pub no_unit : UnitPlay
no_unit = record { parts = []; ends = ends.Idle }

-- a last part without commands, at which the unit is refused
abbrev pub refused_with : Closing → UnitPlay
refused_with end = record { parts = [] ∷ []; ends = ends.Refused end }

-- a first part of commands, and acts on the spool volumes and the printer after it
abbrev pub behind_acts : List Entry → UnitPlay → UnitPlay
behind_acts es u = record { parts = es ∷ u.parts; ends = u.ends }

-- ENDED

-- the groups that Ended needs of the member: none for a cancelled job
abbrev pub groups_for_end : Queue → JobNo → List OutSpec → ℕ
groups_for_end Q n specs = groups_of_outputs (outputs_at_end (job_at Q n) specs)

-- the member's groups become Free
abbrev pub drop_groups : Command
drop_groups = command.Drop no_number

abbrev pub ended_as : Reply → Command → List Command
ended_as answer c = c ∷ (if is_refusal answer then drop_groups ∷ [] else [])

-- Ended, and after a refused one Drop
abbrev pub ending : Queue → MemberId → JobNo → List OutSpec → List Command
ending Q by n specs = ended_as (reply_to Q by (command.Ended n specs)) (command.Ended n specs)

-- the unit whose last part these entries are: it ends by the reply to the last command that isn't Drop
abbrev pub last_part : List Entry → UnitPlay
last_part es = record { parts = es ∷ []; ends = end_by (closing_reply es) }

-- once the outputs stand in the member's groups, or a volume of theirs was found lost
abbrev pub spooled : Option ℕ → Queue → MemberId → ℕ → JobNo → List OutSpec → UnitPlay
spooled None Q by at n specs = last_part (given_in Q by at (ending Q by n specs))
spooled (Some volume) Q by at n specs = record
    { parts = given_in Q by at (drop_groups ∷ []) ∷ []; ends = ends.Refused (closing.SpoolLost volume) }

-- the queue in which the member has the groups
abbrev pub taken_queue : Queue → MemberId → ℕ → ℕ → Queue
taken_queue Q by at needed = run Q (given_in Q by at (takes needed Q by needed))

-- Take of the groups, as often as needed; Drop after a refused one
abbrev pub taking : Queue → MemberId → ℕ → List Command
taking Q by needed = takes needed Q by needed ++ (if are_refused needed Q by needed then drop_groups ∷ [] else [])

abbrev pub taken_end : Queue → MemberId → ℕ → ℕ → UnitEnd
taken_end Q by at needed = if are_refused needed Q by needed then end_by
    (closing_reply (given_in Q by at (taking Q by needed))) else ends.Done

-- once the groups are taken, or one Take was refused
abbrev pub taken : Bool → Queue → MemberId → ℕ → ℕ → (Queue → UnitPlay) → UnitPlay
taken true Q by at needed rest = last_part (given_in Q by at (taking Q by needed))
taken false Q by at needed rest = behind_acts (given_in Q by at (takes needed Q by needed))
    (rest (taken_queue Q by at needed))

abbrev pub ended_with : ℕ → Option ℕ → Queue → MemberId → ℕ → (Option ℕ → Queue → UnitPlay) → UnitPlay
ended_with zero lost Q by at rest = rest None Q
ended_with (suc needed) lost Q by at rest = taken (are_refused (suc needed) Q by (suc needed)) Q by at (suc needed)
    (rest lost)

-- Take of the groups that are needed, as often as needed; the outputs are written; Ended. After a refused Take or
-- Ended, or where a volume of one of the groups was found lost, Drop of the member's groups.
abbrev pub job_ended : Option ℕ → Queue → MemberId → ℕ → JobNo → List OutSpec → UnitPlay
job_ended lost Q by at n specs = ended_with (groups_for_end Q n specs) lost Q by at
    (λ l R. spooled l R by at n specs)

-- RUN AND CONVERT

-- a unit of a job, once its text was read
abbrev pub outcome_play : Option ℕ → Queue → MemberId → ℕ → JobNo → Outcome → UnitPlay
outcome_play lost Q by at n outcome.Convert = one_command Q by at (command.Converted n)
outcome_play lost Q by at n (outcome.End specs) = job_ended lost Q by at n specs
outcome_play lost Q by at n (outcome.Stop end) = refused_with end

abbrev pub job_play : Bool → Queue → MemberId → ℕ → Look → Job → UnitPlay
job_play runs Q by at look j = behind_acts [] (outcome_play look.lost Q by at j.number (outcome_for runs look j))

-- the unit of the job with this number, which is run, or else converted
abbrev pub numbered_play : Bool → Queue → MemberId → ℕ → Look → JobNo → UnitPlay
numbered_play runs Q by at look n = option_map_or (job_play runs Q by at look) (job_at Q n) no_unit

-- PRINTING

-- the last line that is printed next: as many after the mark as the member's printer prints at a time, but none above
-- the total
abbrev pub chunk_end : Queue → MemberId → Output → ℕ
chunk_end Q by o = min (o.mark + limit_of Q by) (total o)

-- Once the text was read and its lines printed: none where each of them stands on paper, else how the unit is refused.
abbrev pub printed_end : Bool → Read → Option Closing
printed_end lost (read.Gone group) = Some (closing.NoText group)
printed_end lost (read.Lost volume) = Some (closing.SpoolLost volume)
printed_end true (read.Lines lines) = Some closing.PrinterLost
printed_end false (read.Lines lines) = None

-- the lines up to one are marked with this command, where they stand on paper
abbrev pub mark_play : Queue → MemberId → ℕ → Command → Option Closing → UnitPlay
mark_play Q by at c None = one_command Q by at c
mark_play Q by at c (Some end) = refused_with end

abbrev pub output_play : Queue → MemberId → ℕ → Look → Output → UnitPlay
output_play Q by at look o = behind_acts []
    (mark_play Q by at (command.Mark o.job o.index (chunk_end Q by o))
    (printed_end look.printer (read_of look.read o.text)))

-- the unit of the output with this key
abbrev pub print_play : Queue → MemberId → ℕ → Look → JobNo → OutNo → UnitPlay
print_play Q by at look n i = option_map_or (output_play Q by at look) (output_at Q n i) no_unit

-- EACH UNIT

abbrev pub unit_play : Queue → MemberId → ℕ → Look → units.Unit → UnitPlay
unit_play Q by at look (unit.Print n i) = print_play Q by at look n i
unit_play Q by at look (unit.Finish n i) = one_command Q by at (command.Done n i)
unit_play Q by at look unit.Pick = one_command Q by at command.Pick
unit_play Q by at look unit.Purge = one_command Q by at command.Purge
unit_play Q by at look unit.Gather = one_command Q by at command.Gather
unit_play Q by at look (unit.Run n) = numbered_play true Q by at look n
unit_play Q by at look (unit.Convert n) = numbered_play false Q by at look n
unit_play Q by at look unit.TakeExec = one_command Q by at command.TakeExec
unit_play Q by at look unit.TakeConvert = one_command Q by at command.TakeConvert
unit_play Q by at look unit.Idle = no_unit

-- the one command of a unit, None of one that reads a text, or that doesn't apply
abbrev pub command_of : units.Unit → Option Command
command_of (unit.Finish n i) = Some (command.Done n i)
command_of unit.Pick = Some command.Pick
command_of unit.Purge = Some command.Purge
command_of unit.Gather = Some command.Gather
command_of unit.TakeExec = Some command.TakeExec
command_of unit.TakeConvert = Some command.TakeConvert
command_of _ = None

-- the next unit of the member
abbrev pub next_play : Queue → MemberId → ℕ → Look → UnitPlay
next_play Q by at look = unit_play Q by at look (unit_of Q by)
