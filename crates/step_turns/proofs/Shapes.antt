-- How a sitting may go: the units that it plays one after another, each of one command, after a first part of a unit
-- under way.
use Rattle.std.proofs.Common.{◌≡◌, ◌≢◌, ℕ, zero, suc, ◌+◌, ◌-◌, ◌*◌, ◌≤◌, Bool, true, false, List, [], ◌∷◌, length, Option, Some, None, refl, arith}
use Rattle.std.proofs.lemmas.Bool.Decides.{nat_tests}
use Rattle.std.proofs.lemmas.List.{length-append}
use Rattle.std.specs.Option.{option_map_or}
use Rattle.mas_types.specs.declared.answers.Closing.{Closing}
use Rattle.mas_types.specs.declared.answers.Closing.TheVariants as closing
use Rattle.mas_types.specs.declared.commands.Command.{Command}
use Rattle.mas_types.specs.declared.commands.Command.TheVariants as command
use Rattle.mas_types.specs.declared.commands.Reply.{Reply}
use Rattle.mas_types.specs.declared.ids.JobNo.{JobNo}
use Rattle.mas_types.specs.declared.ids.OutNo.{OutNo}
use Rattle.mas_types.specs.declared.jobs.Job.{Job}
use Rattle.mas_types.specs.declared.jobs.OutSpec.{OutSpec}
use Rattle.mas_types.specs.declared.jobs.Output.{Output}
use Rattle.mas_types.specs.declared.queues.Queue.{Queue}
use Rattle.mas_types.specs.declared.units.Unit as units
use Rattle.mas_types.specs.declared.units.Unit.TheVariants as unit
use Rattle.mas_types.specs.Closings.{closing_line, details_of, reply_lines}
use Rattle.mas_types.specs.Owners.{groups_needed}
use Rattle.mas_types.specs.Queue.{job_at, output_at}
use Rattle.mas_types.specs.Run.{run}
use Rattle.mas_types.specs.Units.{unit_of}
use Rattle.queue_laws.proofs.Finds.{test_cases}
use Rattle.job_outcome.specs.declared.outcomes.Outcome.{Outcome}
use Rattle.job_outcome.specs.declared.outcomes.Outcome.TheVariants as outcome
use Rattle.job_outcome.specs.declared.units.UnitEnd.{UnitEnd}
use Rattle.job_outcome.specs.declared.units.UnitEnd.TheVariants as ends
use Rattle.job_outcome.specs.Next.{end_by}
use Rattle.job_outcome.specs.Outcomes.{outcome_of}
use Rattle.step_turns.specs.Courses.{aside_most, sittings_most}
use Rattle.step_turns.specs.Decks.{are_refused, finishing, job_opened, lines_by, opening, takes}
use Rattle.step_turns.specs.Entries.{closing_reply, given_in, reply_to}
use Rattle.step_turns.specs.JobEnds.{drop_groups, ending, groups_for_end, printed_end, taking}
use Rattle.step_turns.specs.Laws.{aside_done, aside_on_line, aside_units, on_line, task_on_line, units_done, units_left}
use Rattle.step_turns.specs.States.{Acknowledge, Aside, Away, ByLock, Deck, Exchange, ForStep, Found, Fresh, Give, Grant, Holder, Line, PrintLines, Progress, ReadText, Rested, SpoolArrival, SpoolDeck, SpoolOutputs, State, Task, Told, Work}
use Rattle.step_turns.specs.Turns.{Turn, Units, after_part, aside_turn, closes_as, deck_opens, ends_with, goes_on, goes_on_by, groups_taken, is_spent, job_ends, leaves, lines_printed, next_unit, one_command, outputs_stand, prints_output, reads_job, says, task_turn, text_read, turn, units_from}
use Rattle.step_turns.proofs.Takes.{few_ending, few_opening, few_taking, some_ending, some_opening, some_taking, takes_few, takes_some}

-- From a queue, with so many commands given in the sitting, so many units that may still be played, and so many done:
-- the step closes; it waits for acts; its hold is spent; or a unit of one command is played. The state that it leaves
-- may have so many sittings at most.
pub data Goes (h : Holder) (most : ℕ) : Queue → ℕ → ℕ → ℕ → Turn → Type 0 where
  closes_here : (Q : Queue) (given left done : ℕ) (lines : List (List ℕ)) → 1 ≤ length lines → Goes h most Q given left done (says lines)
  waits : (Q : Queue) (given left done : ℕ) (a : Aside) → aside_units a ≡ left → aside_done a ≡ done → aside_most a ≤ most → Goes h most Q given left done (leaves (Away a))
  rests : (Q : Queue) (given left done : ℕ) (p : Progress) → h.grant ≡ ForStep → h.hold ≤ given → p.left ≡ left → p.done ≡ done → 3 * p.left + 1 ≤ most → Goes h most Q given left done (leaves (Rested p))
  plays : (Q : Queue) (given left done : ℕ) (c : Command) (t : Turn)
      → Goes h most (run Q (given_in Q h.by h.step (c ∷ []))) (given + length (given_in Q h.by h.step (c ∷ []))) left (done + 1) t
      → Goes h most Q given (suc left) done (after_part (given_in Q h.by h.step (c ∷ [])) t)

-- how a turn goes at the beginning of a sitting: bare, or after a first unit of up to four commands
pub data Begins (h : Holder) (most : ℕ) (Q : Queue) : ℕ → ℕ → Turn → Type 0 where
  bare : (left done : ℕ) (t : Turn) → Goes h most Q 0 left done t → Begins h most Q left done t
  first : (left done : ℕ) (cs : List Command) (t : Turn) → 1 ≤ length cs → length cs ≤ 4
      → Goes h most (run Q (given_in Q h.by h.step cs)) (0 + length (given_in Q h.by h.step cs)) left (done + 1) t
      → Begins h most Q (suc left) done (after_part (given_in Q h.by h.step cs) t)
  taken : (left done : ℕ) (cs : List Command) (a : Aside) → 1 ≤ length cs → length cs ≤ 4 → 1 ≤ left → aside_units a ≡ left → aside_done a ≡ done → aside_most a ≤ most
      → Begins h most Q left done (after_part (given_in Q h.by h.step cs) (leaves (Away a)))

-- UNITS

module _ (h : Holder) (most : ℕ) where
  -- lines of a closing and of a reply
  closes_now : (Q : Queue) (given left done : ℕ) (end : Closing) → Goes h most Q given left done (closes_as h end)
  closes_now Q given left done end = closes_here Q given left done (closing_line h.by h.step end ∷ []) (omega arith)

  spent_for_step : (g : Grant) (hold given : ℕ) → is_spent g hold given ≡ true → (g ≡ ForStep) × (hold ≤ given)
  spent_for_step ForStep hold given e = (refl, grind (arith, nat_tests))
  spent_for_step ByLock hold given e = absurd (cc)

  -- units that may go on from each queue, within so many sittings
  abbrev MayGoOn : ℕ → Units → Type 0
  MayGoOn left more = (Q : Queue) (given done : ℕ) → Goes h most Q given left done (more Q given done)

  goes_then : (left : ℕ) (more : Units) → MayGoOn left more → 3 * left + 1 ≤ most → (Q : Queue) (given done : ℕ) → Goes h most Q given left done (goes_on h left more Q given done)
  goes_then zero more may few Q given done = may Q given done
  goes_then (suc left) more may few Q given done =
      test_cases (is_spent h.grant h.hold given) (Goes h most Q given (suc left) done (goes_on h (suc left) more Q given done))
      (λ e. let spent = spent_for_step h.grant h.hold given e in
      rw e (rests Q given (suc left) done (record { done = done; left = suc left }) spent.0 spent.1 refl refl few))
      (λ e. rw e (may Q given done))

  goes_by : (e : UnitEnd) (left : ℕ) (more : Units) → MayGoOn left more → 3 * left + 1 ≤ most → (Q : Queue) (given done : ℕ) → Goes h most Q given left (done + 1) (goes_on_by h e left more Q given done)
  goes_by ends.Done left more may few Q given done = goes_then left more may few Q given (done + 1)
  goes_by ends.Idle left more may few Q given done = closes_now Q given left (done + 1) (closing.DoneUnits done)
  goes_by (ends.Refused end) left more may few Q given done = closes_now Q given left (done + 1) end

  goes_printed : (left : ℕ) → 3 * suc left ≤ most → (Q : Queue) (given done : ℕ) (o : Option Output) → Goes h most Q given (suc left) done (option_map_or (prints_output h Q left done) o (closes_as h (closing.DoneUnits done)))
  goes_printed left few Q given done None = closes_now Q given (suc left) done (closing.DoneUnits done)
  goes_printed left few Q given done (Some o) = waits Q given (suc left) done (PrintLines o.job o.index _ (record { done = done; left = left })) refl refl (omega (arith, few))

  goes_read : (runs : Bool) (left : ℕ) → 3 * suc left ≤ most → (Q : Queue) (given done : ℕ) (j : Option Job) → Goes h most Q given (suc left) done (option_map_or (reads_job h runs left done) j (closes_as h (closing.DoneUnits done)))
  goes_read runs left few Q given done None = closes_now Q given (suc left) done (closing.DoneUnits done)
  goes_read runs left few Q given done (Some j) = waits Q given (suc left) done (ReadText runs j.number j.fields (record { done = done; left = left })) refl refl (omega (arith, few))

  goes_one : (c : Command) (left : ℕ) (more : Units) → MayGoOn left more → 3 * suc left ≤ most → (Q : Queue) (given done : ℕ) → Goes h most Q given (suc left) done (one_command h c left more Q given done)
  goes_one c left more may few Q given done =
      let es = given_in Q h.by h.step (c ∷ []) in
      plays Q given left done c (goes_on_by h (end_by (closing_reply es)) left more (run Q es) (given + length es) done)
      (goes_by (end_by (closing_reply es)) left more may (omega (arith, few)) (run Q es) (given + length es) done)

  goes_next : (u : units.Unit) (left : ℕ) (more : Units) → MayGoOn left more → 3 * suc left ≤ most → (Q : Queue) (given done : ℕ) → Goes h most Q given (suc left) done (next_unit h u left more Q given done)
  goes_next (unit.Print n i) left more may few Q given done = goes_printed left few Q given done (output_at Q n i)
  goes_next (unit.Finish n i) left more may few Q given done = goes_one (command.Done n i) left more may few Q given done
  goes_next unit.Pick left more may few Q given done = goes_one command.Pick left more may few Q given done
  goes_next unit.Purge left more may few Q given done = goes_one command.Purge left more may few Q given done
  goes_next unit.Gather left more may few Q given done = goes_one command.Gather left more may few Q given done
  goes_next (unit.Run n) left more may few Q given done = goes_read true left few Q given done (job_at Q n)
  goes_next (unit.Convert n) left more may few Q given done = goes_read false left few Q given done (job_at Q n)
  goes_next unit.TakeExec left more may few Q given done = goes_one command.TakeExec left more may few Q given done
  goes_next unit.TakeConvert left more may few Q given done = goes_one command.TakeConvert left more may few Q given done
  goes_next unit.Idle left more may few Q given done = closes_now Q given (suc left) done (closing.DoneUnits done)

  goes_units : (left : ℕ) → 3 * left ≤ most → MayGoOn left (units_from h left)
  goes_units zero few Q given done = closes_now Q given zero done (closing.DoneUnits done)
  goes_units (suc left) few Q given done = goes_next (unit_of Q h.by) left (units_from h left) (goes_units left (omega (arith, few))) few Q given done

  -- A UNIT UNDER WAY

  begins_last : (cs : List Command) (p : Progress) (Q : Queue) → 1 ≤ length cs → length cs ≤ 4 → 3 * p.left + 1 ≤ most → Begins h most Q (suc p.left) p.done (ends_with h (given_in Q h.by h.step cs) p Q)
  begins_last cs p Q some few may =
      let es = given_in Q h.by h.step cs in
      first p.left p.done cs (goes_on_by h (end_by (closing_reply es)) p.left (units_from h p.left) (run Q es) (0 + length es) p.done) some few
      (goes_by (end_by (closing_reply es)) p.left (units_from h p.left) (goes_units p.left (omega (arith, may))) may (run Q es) (0 + length es) p.done)

  -- the step closes with these lines after a first part
  begins_closing : (cs : List Command) (left done : ℕ) (lines : List (List ℕ)) (Q : Queue) → 1 ≤ length cs → length cs ≤ 4 → 1 ≤ length lines → Begins h most Q (suc left) done (after_part (given_in Q h.by h.step cs) (says lines))
  begins_closing cs left done lines Q some few said = first left done cs (says lines) some few (closes_here (run Q (given_in Q h.by h.step cs)) (0 + length (given_in Q h.by h.step cs)) left (done + 1) lines said)

  begins_outputs : (lost : Option ℕ) (Q : Queue) (n : JobNo) (specs : List OutSpec) (p : Progress) → 3 * p.left + 1 ≤ most → Begins h most Q (suc p.left) p.done (outputs_stand h lost Q n specs p)
  begins_outputs None Q n specs p may = begins_last (ending Q h.by n specs) p Q (some_ending Q h.by n specs) (let few = few_ending Q h.by n specs in omega (arith, few)) may
  begins_outputs (Some volume) Q n specs p may = begins_closing (drop_groups ∷ []) p.left p.done (closing_line h.by h.step (closing.SpoolLost volume) ∷ []) Q (omega arith) (omega arith) (omega arith)

  begins_taken : (refused : Bool) (needed : ℕ) (Q : Queue) (n : JobNo) (specs : List OutSpec) (p : Progress) → 3 * p.left + 2 ≤ most → Begins h most Q (suc p.left) p.done (groups_taken h refused (suc needed) Q n specs p)
  begins_taken true needed Q n specs p may = begins_last (taking Q h.by (suc needed)) p Q (some_taking Q h.by needed) (let few = few_taking Q h.by (suc needed) in omega (arith, few)) (omega (arith, may))
  begins_taken false needed Q n specs p may = taken (suc p.left) p.done (takes (suc needed) Q h.by (suc needed)) (SpoolOutputs n specs p) (takes_some needed Q h.by needed) (let few = takes_few (suc needed) Q h.by (suc needed) in omega (arith, few)) (omega arith) refl refl may

  begins_end : (needed : ℕ) (Q : Queue) (n : JobNo) (specs : List OutSpec) (p : Progress) → 3 * p.left + 2 ≤ most → Begins h most Q (suc p.left) p.done (job_ends h needed Q n specs p)
  begins_end zero Q n specs p may = begins_outputs None Q n specs p (omega (arith, may))
  begins_end (suc needed) Q n specs p may = begins_taken (are_refused (suc needed) Q h.by (suc needed)) needed Q n specs p may

  begins_text : (o : Outcome) (Q : Queue) (n : JobNo) (p : Progress) → 3 * p.left + 2 ≤ most → Begins h most Q (suc p.left) p.done (text_read h o Q n p)
  begins_text outcome.Convert Q n p may = begins_last (command.Converted n ∷ []) p Q (omega arith) (omega arith) (omega (arith, may))
  begins_text (outcome.End specs) Q n p may = begins_end (groups_for_end Q n specs) Q n specs p may
  begins_text (outcome.Stop end) Q n p may = bare (suc p.left) p.done (closes_as h end) (closes_now Q 0 (suc p.left) p.done end)

  begins_printed : (end : Option Closing) (Q : Queue) (n : JobNo) (i : OutNo) (last : ℕ) (p : Progress) → 3 * p.left + 1 ≤ most → Begins h most Q (suc p.left) p.done (lines_printed h end Q n i last p)
  begins_printed None Q n i last p may = begins_last (command.Mark n i last ∷ []) p Q (omega arith) (omega arith) may
  begins_printed (Some end) Q n i last p may = bare (suc p.left) p.done (closes_as h end) (closes_now Q 0 (suc p.left) p.done end)

  -- DECKS

  some_lines : (r : Reply) → 1 ≤ length (reply_lines h.by h.step r)
  some_lines r = let both = length-append (details_of h.by h.step r) (closing_line h.by h.step (closing.Reply r) ∷ []) in omega (arith, both)

  some_lines_by : (lost : Option ℕ) (r : Reply) → 1 ≤ length (lines_by h.by h.step lost r)
  some_lines_by None r = some_lines r
  some_lines_by (Some volume) r = omega arith

  begins_deck : (job : Option JobNo) (cs : List Command) (text : List (List ℕ)) (Q : Queue) → 1 ≤ most → 1 ≤ length cs → length cs ≤ 4 → Begins h most Q 1 0 (deck_opens h job (given_in Q h.by h.step cs) text)
  begins_deck (Some n) cs text Q may some few = taken 1 0 cs (SpoolDeck n text) some few (omega arith) refl refl may
  begins_deck None cs text Q may some few = begins_closing cs 0 0 (reply_lines h.by h.step (closing_reply (given_in Q h.by h.step cs))) Q some few (some_lines (closing_reply (given_in Q h.by h.step cs)))

-- FROM EACH STATE of a step that serves no line

module _ (h : Holder) (Q : Queue) where
  begins_task : (task : Task) → task_on_line task ≡ false → Begins h (sittings_most (Fresh task) - 1) Q (units_left (Fresh task)) 0 (task_turn h Q task)
  begins_task (Give c) off = begins_closing h 0 (c ∷ []) 0 0 (reply_lines h.by h.step (reply_to Q h.by c)) Q (omega arith) (omega arith) (some_lines h 0 (reply_to Q h.by c))
  begins_task (Deck fields text) off = begins_deck h 1 (job_opened Q h.by fields (groups_needed text)) (opening Q h.by fields (groups_needed text)) text Q (omega arith) (some_opening Q h.by fields (groups_needed text)) (few_opening Q h.by fields (groups_needed text))
  begins_task (Work n) off = bare n 0 (units_from h n Q 0 0) (goes_units h (3 * n + 1 - 1) n (omega arith) Q 0 0)
  begins_task (Line l) off = absurd (cc)

  begins_aside : (a : Aside) (found : Found) → aside_on_line a ≡ false → Begins h (aside_most a - 1) Q (aside_units a) (aside_done a) (aside_turn h Q a found)
  begins_aside (SpoolDeck n text) found off = begins_closing h 0 (finishing found.lost n text ∷ []) 0 0 (lines_by h.by h.step found.lost (closing_reply (given_in Q h.by h.step (finishing found.lost n text ∷ [])))) Q (omega arith) (omega arith) (some_lines_by h 0 found.lost (closing_reply (given_in Q h.by h.step (finishing found.lost n text ∷ []))))
  begins_aside (ReadText runs n fields p) found off = begins_text h (3 * p.left + 3 - 1) (outcome_of runs fields found.read) Q n p (omega arith)
  begins_aside (SpoolOutputs n specs p) found off = begins_outputs h (3 * p.left + 2 - 1) found.lost Q n specs p (omega arith)
  begins_aside (PrintLines n i last p) found off = begins_printed h (3 * p.left + 2 - 1) (printed_end found.printer found.read) Q n i last p (omega arith)
  begins_aside (Exchange l offer) found off = absurd (cc)
  begins_aside (SpoolArrival number n text s) found off = absurd (cc)
  begins_aside (Acknowledge number s) found off = absurd (cc)

  pub begins : (s : State) (found : Found) → on_line s ≡ false → s ≢ Told → Begins h (sittings_most s - 1) Q (units_left s) (units_done s) (turn h Q s found)
  begins (Fresh task) found off open_now = begins_task task off
  begins (Away aside) found off open_now = begins_aside aside found off
  begins (Rested p) found off open_now = bare p.left p.done (units_from h p.left Q 0 p.done) (goes_units h (3 * p.left + 1 - 1) p.left (omega arith) Q 0 p.done)
  begins Told found off open_now = absurd (open_now refl)
