-- What a sitting gives at a queue: the commands of its units, part after part, the state that it leaves, and the lines
-- where the step closes.
use Rattle.std.specs.Prelude.{ℕ, zero, suc, ◌+◌, nat_le, Bool, true, false, if◌then◌else◌, List, [], ◌∷◌, length, Option, Some, None}
use Rattle.std.specs.Option.{option_map_or}
use Rattle.mas_types.specs.declared.ids.JobNo.{JobNo}
use Rattle.mas_types.specs.declared.ids.OutNo.{OutNo}
use Rattle.mas_types.specs.declared.answers.Closing.{Closing}
use Rattle.mas_types.specs.declared.answers.Closing.TheVariants as closing
use Rattle.mas_types.specs.declared.commands.Command.{Command}
use Rattle.mas_types.specs.declared.commands.Command.TheVariants as command
use Rattle.mas_types.specs.declared.jobs.Job.{Job}
use Rattle.mas_types.specs.declared.jobs.OutSpec.{OutSpec}
use Rattle.mas_types.specs.declared.jobs.Output.{Output}
use Rattle.mas_types.specs.declared.journals.Entry.{Entry}
use Rattle.mas_types.specs.declared.queues.Queue.{Queue}
use Rattle.mas_types.specs.declared.units.Unit as units
use Rattle.mas_types.specs.declared.units.Unit.TheVariants as unit
use Rattle.mas_types.specs.Closings.{closing_line, reply_lines}
use Rattle.mas_types.specs.Owners.{groups_needed}
use Rattle.mas_types.specs.Queue.{job_at, output_at}
use Rattle.mas_types.specs.Run.{run}
use Rattle.mas_types.specs.Units.{unit_of}
use Rattle.job_outcome.specs.declared.outcomes.Outcome.{Outcome}
use Rattle.job_outcome.specs.declared.outcomes.Outcome.TheVariants as outcome
use Rattle.job_outcome.specs.declared.units.UnitEnd.{UnitEnd}
use Rattle.job_outcome.specs.declared.units.UnitEnd.TheVariants as ends
use Rattle.job_outcome.specs.Next.{end_by}
use Rattle.job_outcome.specs.Outcomes.{outcome_of}
use Rattle.step_turns.specs.Entries.{closing_reply, given_in, reply_to}
use Rattle.step_turns.specs.States.{Acknowledge, Aside, Deck, Exchange, Found, Fresh, Away, ByLock, Give, ForStep, Grant, Holder, Line, PrintLines, Progress, ReadText, Rested, SpoolArrival, SpoolDeck, SpoolOutputs, State, Task, Told, Work}
use Rattle.step_turns.specs.Decks.{are_refused, finishing, job_opened, lines_by, opening, takes}
use Rattle.step_turns.specs.JobEnds.{chunk_end, drop_groups, ending, groups_for_end, printed_end, taking}
use Rattle.step_turns.specs.Serving.{acknowledged, exchange_end, exchanged, heard, line_begins, stored}
pub use Rattle.step_turns.specs.TurnParts.{Turn, leaves, says, after_part}

-- where the units that may follow go on: at a queue, with so many commands given in the sitting, and so many units done
-- in the step
abbrev pub Units : Type 0
Units = Queue → ℕ → ℕ → Turn

-- a hold of which so much is left is spent after so many commands; under LOCK that cuts nothing within the step
abbrev pub is_spent : Grant → ℕ → ℕ → Bool
is_spent ForStep hold given = nat_le hold given
is_spent ByLock hold given = false

module _ (h : Holder) where
  -- UNITS ONE AFTER ANOTHER

  -- the step closes with the line of this closing
  abbrev pub closes_as : Closing → Turn
  closes_as end = says (closing_line h.by h.step end ∷ [])

  -- no unit is left, or none applies
  abbrev pub no_more : ℕ → Turn
  no_more done = closes_as (closing.DoneUnits done)

  -- the step waits for these acts
  abbrev pub waits_for : Aside → Turn
  waits_for a = leaves (Away a)

  -- the entries of commands that the member gives in the step
  abbrev pub gives : Queue → List Command → List Entry
  gives Q cs = given_in Q h.by h.step cs

  -- After a done unit, where so many may follow: none is begun after the last, and the lock is given up where the hold
  -- is spent.
  abbrev pub goes_on : ℕ → Units → Units
  goes_on zero more Q given done = more Q given done
  goes_on (suc left) more Q given done =
      if is_spent h.grant h.hold given then leaves (Rested (record { done = done; left = suc left }))
      else more Q given done

  -- the turn after a unit that ended in this way, with so many units done before it
  abbrev pub goes_on_by : UnitEnd → ℕ → Units → Units
  goes_on_by ends.Done left more Q given done = goes_on left more Q given (done + 1)
  goes_on_by ends.Idle left more Q given done = no_more done
  goes_on_by (ends.Refused end) left more Q given done = closes_as end

  -- a last part of a unit: these entries, by whose last reply but Drop's it ends
  abbrev pub last_part : List Entry → ℕ → Units → Units
  last_part es left more Q given done =
      after_part es (goes_on_by (end_by (closing_reply es)) left more (run Q es) (given + length es) done)

  -- a unit of one command
  abbrev pub one_command : Command → ℕ → Units → Units
  one_command c left more Q given done = last_part (gives Q (c ∷ [])) left more Q given done

  -- a unit that reads a text: of a job that is run, or else converted, or of an output of which lines are printed
  abbrev pub reads_job : Bool → ℕ → ℕ → Job → Turn
  reads_job runs left done j = waits_for (ReadText runs j.number j.fields (record { done = done; left = left }))

  abbrev pub prints_output : Queue → ℕ → ℕ → Output → Turn
  prints_output Q left done o =
      waits_for (PrintLines o.job o.index (chunk_end Q h.by o) (record { done = done; left = left }))

  -- the next unit, where so many may follow it; none applies where there is no unit, or not what it is about
  abbrev pub next_unit : units.Unit → ℕ → Units → Units
  next_unit (unit.Print n i) left more Q given done = option_map_or (prints_output Q left done) (output_at Q n i)
      (no_more done)
  next_unit (unit.Finish n i) left more Q given done = one_command (command.Done n i) left more Q given done
  next_unit unit.Pick left more Q given done = one_command command.Pick left more Q given done
  next_unit unit.Purge left more Q given done = one_command command.Purge left more Q given done
  next_unit unit.Gather left more Q given done = one_command command.Gather left more Q given done
  next_unit (unit.Run n) left more Q given done = option_map_or (reads_job true left done) (job_at Q n) (no_more done)
  next_unit (unit.Convert n) left more Q given done = option_map_or (reads_job false left done) (job_at Q n)
      (no_more done)
  next_unit unit.TakeExec left more Q given done = one_command command.TakeExec left more Q given done
  next_unit unit.TakeConvert left more Q given done = one_command command.TakeConvert left more Q given done
  next_unit unit.Idle left more Q given done = no_more done

  -- a member's units one after another, so many at most, up to one that reads a text
  abbrev pub units_from : ℕ → Units
  units_from zero Q given done = no_more done
  units_from (suc left) Q given done = next_unit (unit_of Q h.by) left (units_from left) Q given done

  -- A UNIT UNDER WAY, as the sitting begins

  abbrev pub ends_with : List Entry → Progress → Queue → Turn
  ends_with es p Q = last_part es p.left (units_from p.left) Q 0 p.done

  -- the turn once a job's outputs stand in the member's groups, or a volume of theirs was found lost
  abbrev pub outputs_stand : Option ℕ → Queue → JobNo → List OutSpec → Progress → Turn
  outputs_stand None Q n specs p = ends_with (gives Q (ending Q h.by n specs)) p Q
  outputs_stand (Some volume) Q n specs p = after_part (gives Q (drop_groups ∷ []))
      (closes_as (closing.SpoolLost volume))

  -- the turn once the groups are taken, or a Take was refused
  abbrev pub groups_taken : Bool → ℕ → Queue → JobNo → List OutSpec → Progress → Turn
  groups_taken true needed Q n specs p = ends_with (gives Q (taking Q h.by needed)) p Q
  groups_taken false needed Q n specs p = after_part (gives Q (takes needed Q h.by needed))
      (waits_for (SpoolOutputs n specs p))

  abbrev pub job_ends : ℕ → Queue → JobNo → List OutSpec → Progress → Turn
  job_ends zero Q n specs p = outputs_stand None Q n specs p
  job_ends (suc needed) Q n specs p =
      groups_taken (are_refused (suc needed) Q h.by (suc needed)) (suc needed) Q n specs p

  -- the turn once a job's text was read
  abbrev pub text_read : Outcome → Queue → JobNo → Progress → Turn
  text_read outcome.Convert Q n p = ends_with (gives Q (command.Converted n ∷ [])) p Q
  text_read (outcome.End specs) Q n p = job_ends (groups_for_end Q n specs) Q n specs p
  text_read (outcome.Stop end) Q n p = closes_as end

  -- the turn once lines were to be printed, up to this one: they are marked where they stand on paper
  abbrev pub lines_printed : Option Closing → Queue → JobNo → OutNo → ℕ → Progress → Turn
  lines_printed None Q n i last p = ends_with (gives Q (command.Mark n i last ∷ [])) p Q
  lines_printed (Some end) Q n i last p = closes_as end

  -- DECKS AND COMMANDS

  abbrev pub deck_opens : Option JobNo → List Entry → List (List ℕ) → Turn
  deck_opens (Some n) es text = after_part es (waits_for (SpoolDeck n text))
  deck_opens None es text = after_part es (says (reply_lines h.by h.step (closing_reply es)))

  abbrev pub deck_ends : Option ℕ → List Entry → Turn
  deck_ends lost es = after_part es (says (lines_by h.by h.step lost (closing_reply es)))

  abbrev pub command_ends : Queue → Command → Turn
  command_ends Q c = after_part (gives Q (c ∷ [])) (says (reply_lines h.by h.step (reply_to Q h.by c)))

  -- FROM EACH STATE

  abbrev pub task_turn : Queue → Task → Turn
  task_turn Q (Give c) = command_ends Q c
  task_turn Q (Deck fields text) =
      let groups = groups_needed text in
      deck_opens (job_opened Q h.by fields groups) (gives Q (opening Q h.by fields groups)) text
  task_turn Q (Work n) = units_from n Q 0 0
  task_turn Q (Line l) = line_begins h.by h.step Q l

  abbrev pub aside_turn : Queue → Aside → Found → Turn
  aside_turn Q (SpoolDeck n text) found = deck_ends found.lost (gives Q (finishing found.lost n text ∷ []))
  aside_turn Q (ReadText runs n fields p) found = text_read (outcome_of runs fields found.read) Q n p
  aside_turn Q (SpoolOutputs n specs p) found = outputs_stand found.lost Q n specs p
  aside_turn Q (PrintLines n i last p) found = lines_printed (printed_end found.printer found.read) Q n i last p
  aside_turn Q (Exchange l offer) found = exchanged h.by h.step (exchange_end offer l found) l (heard found) Q
  aside_turn Q (SpoolArrival number n text s) found = stored h.by h.step found.lost number n text s Q
  aside_turn Q (Acknowledge number s) found = acknowledged h.by h.step number found.wire s Q

  abbrev pub turn : Queue → State → Found → Turn
  turn Q (Fresh task) found = task_turn Q task
  turn Q (Away aside) found = aside_turn Q aside found
  turn Q (Rested p) found = units_from p.left Q 0 p.done
  turn Q Told found = leaves Told
