-- A hold and LOCK change only how a step's entries are cut into batches: each holder is compared with one by LOCK,
-- whose step no hold cuts.
use Rattle.std.proofs.Common.{◌≡◌, ◌≢◌, ℕ, zero, suc, ◌+◌, ◌-◌, ◌*◌, ◌≤◌, Bool, true, false, List, [], ◌∷◌, ◌++◌, length, append_assoc, Option, Some, None, refl, sym, ap, ◌∙◌, arith}
use Rattle.std.specs.Option.{option_map_or}
use Rattle.mas_types.specs.declared.answers.Closing.{Closing}
use Rattle.mas_types.specs.declared.answers.Closing.TheVariants as closing
use Rattle.mas_types.specs.declared.commands.Command.TheVariants as command
use Rattle.mas_types.specs.declared.ids.JobNo.{JobNo}
use Rattle.mas_types.specs.declared.ids.MemberId.{MemberId}
use Rattle.mas_types.specs.declared.ids.OutNo.{OutNo}
use Rattle.mas_types.specs.declared.jobs.Job.{Job}
use Rattle.mas_types.specs.declared.jobs.OutSpec.{OutSpec}
use Rattle.mas_types.specs.declared.jobs.Output.{Output}
use Rattle.mas_types.specs.declared.journals.Entry.{Entry}
use Rattle.mas_types.specs.declared.queues.Queue.{Queue}
use Rattle.mas_types.specs.declared.units.Unit as units
use Rattle.mas_types.specs.declared.units.Unit.TheVariants as unit
use Rattle.mas_types.specs.Owners.{groups_needed}
use Rattle.mas_types.specs.Queue.{job_at, output_at}
use Rattle.mas_types.specs.Run.{run}
use Rattle.mas_types.specs.Units.{unit_of}
use Rattle.queue_laws.proofs.Finds.{test_cases}
use Rattle.job_outcome.specs.declared.outcomes.Outcome.{Outcome}
use Rattle.job_outcome.specs.declared.outcomes.Outcome.TheVariants as outcome
use Rattle.job_outcome.specs.declared.units.UnitEnd.{UnitEnd}
use Rattle.job_outcome.specs.declared.units.UnitEnd.TheVariants as ends
use Rattle.job_outcome.specs.Next.{end_by}
use Rattle.job_outcome.specs.Outcomes.{outcome_of}
use Rattle.step_turns.specs.Batches.{cut}
use Rattle.step_turns.specs.Courses.{Course, Finds, aside_most, course, course_of, hold_then, sittings, sittings_most, task_most}
use Rattle.step_turns.specs.Decks.{are_refused, job_opened, opening, takes}
use Rattle.step_turns.specs.Entries.{all_entries, closing_reply, given_in}
use Rattle.step_turns.specs.JobEnds.{drop_groups, ending, groups_for_end, printed_end, taking}
use Rattle.step_turns.specs.Laws.{HoldsChangeNoEntry, all_given}
use Rattle.step_turns.specs.Serving.{exchange_end}
use Rattle.step_turns.specs.States.{Acknowledge, Aside, Away, ByLock, Deck, Exchange, Found, Fresh, Give, Grant, Holder, Line, PrintLines, Progress, ReadText, Rested, SpoolArrival, SpoolDeck, SpoolOutputs, State, Task, Told, Work}
use Rattle.step_turns.specs.Turns.{Turn, after_part, closes_as, deck_opens, ends_with, goes_on, goes_on_by, groups_taken, is_spent, job_ends, last_part, leaves, lines_printed, next_unit, outputs_stand, prints_output, reads_job, text_read, turn, units_from}
use Rattle.step_turns.proofs.Cutting.{cut_entries}
use Rattle.step_turns.proofs.Endings.{told_gives_none}
use Rattle.step_turns.proofs.Given.{entries_append, run_append}
use Rattle.step_turns.proofs.Served.{served_acknowledged, served_exchange, served_stored}
use Rattle.step_turns.proofs.Sittings.{by_state, some_may_follow}

module _ (finds : Finds) (by : MemberId) (at : ℕ) where
  -- this member in this step, with a hold and a grant
  abbrev holds : ℕ → Grant → Holder
  holds hold grant = record { by = by; step = at; hold = hold; grant = grant }

  -- the member that holds by LOCK, with a hold that is spent
  abbrev locked : Holder
  locked = holds 0 ByLock

  -- the entries and the lines of a step from a state on
  abbrev Given : Type 0
  Given = List Entry × List (List ℕ)

  abbrev later : ℕ → Holder → Queue → State → Given
  later n h Q s = all_given (course_of (sittings n finds Q h s))

  -- the entries and the lines of a sitting under way, and of those after it
  abbrev finish : ℕ → Holder → Queue → Turn → Given
  finish n h Q t = (all_entries t.parts ++ (later n h (run Q (all_entries t.parts)) t.next).0, t.lines ++ (later n h (run Q (all_entries t.parts)) t.next).1)

  one_sitting : (n : ℕ) (hold : ℕ) (grant : Grant) (Q : Queue) (s : State)
      → later (suc n) (holds hold grant) Q s ≡ finish n (holds (hold_then grant Q.config.hold hold (length (all_entries (turn (holds hold grant) Q s (finds Q s)).parts))) grant) Q (turn (holds hold grant) Q s (finds Q s))
  one_sitting n hold grant Q s =
      let t = turn (holds hold grant) Q s (finds Q s) in
      let rest : List Entry → Course = λ es. course_of (sittings n finds (run Q es) (holds (hold_then grant Q.config.hold hold (length es)) grant) t.next) in
      let es = all_entries (cut [] t.parts) in
      ap (λ (fs : List Entry). let given : Given = (fs, t.lines ++ (rest es).lines) in given) (entries_append (cut [] t.parts) (rest es).batches)
      ∙ ap (λ (fs : List Entry). let given : Given = (fs ++ all_entries (rest fs).batches, t.lines ++ (rest fs).lines) in given) (cut_entries [] t.parts)

  -- a member that holds by LOCK with a spent hold holds on so
  none_left : (k : ℕ) → holds (0 - k) ByLock ≡ locked
  none_left k = let none : 0 - k ≡ 0 = omega arith in ap (λ (hold : ℕ). holds hold ByLock) none

  one_locked : (n : ℕ) (Q : Queue) (s : State) → later (suc n) locked Q s ≡ finish n locked Q (turn locked Q s (finds Q s))
  one_locked n Q s =
      one_sitting n 0 ByLock Q s
      ∙ ap (λ (h : Holder). finish n h Q (turn locked Q s (finds Q s))) (none_left (length (all_entries (turn locked Q s (finds Q s)).parts)))

  -- entries first
  abbrev after : List Entry → Given → Given
  after es g = (es ++ g.0, g.1)

  finish_part : (n : ℕ) (h : Holder) (Q : Queue) (es : List Entry) (t : Turn) → finish n h Q (after_part es t) ≡ after es (finish n h (run Q es) t)
  finish_part n h Q es t =
      ap (λ (R : Queue). let given : Given = ((es ++ all_entries t.parts) ++ (later n h R t.next).0, t.lines ++ (later n h R t.next).1) in given) (run_append Q es (all_entries t.parts))
      ∙ ap (λ (fs : List Entry). let given : Given = (fs, t.lines ++ (later n h (run (run Q es) (all_entries t.parts)) t.next).1) in given)
      (append_assoc es (all_entries t.parts) (later n h (run (run Q es) (all_entries t.parts)) t.next).0)

  told_none : (n : ℕ) (h : Holder) (Q : Queue) → later n h Q Told ≡ ([], [])
  told_none n h Q = ap all_given (told_gives_none finds n Q h)

  -- STATES THAT MAY HAVE SO MANY SITTINGS give the same, whoever holds

  abbrev Same : State → Type 0
  Same s = (m n : ℕ) (hold : ℕ) (grant : Grant) (Q : Queue) → sittings_most s ≤ m → sittings_most s ≤ n → later m (holds hold grant) Q s ≡ later n locked Q s

  abbrev SameBelow : ℕ → Type 0
  SameBelow most = (s : State) → sittings_most s ≤ most → Same s

  module _ (most : ℕ) (same : SameBelow most) (m n : ℕ) (enough : most ≤ m) (enough' : most ≤ n) where
    -- a turn goes on alike, whoever holds after it
    same_turn : (hold : ℕ) (grant : Grant) (Q : Queue) (t : Turn) → sittings_most t.next ≤ most → finish m (holds hold grant) Q t ≡ finish n locked Q t
    same_turn hold grant Q t few =
        ap (λ (g : Given). let given : Given = (all_entries t.parts ++ g.0, t.lines ++ g.1) in given)
        (same t.next few m n hold grant (run Q (all_entries t.parts)) (omega (arith, few, enough)) (omega (arith, few, enough')))

    same_part : (hold : ℕ) (grant : Grant) (Q : Queue) (es : List Entry) (t u : Turn) → finish m (holds hold grant) (run Q es) t ≡ finish n locked (run Q es) u → finish m (holds hold grant) Q (after_part es t) ≡ finish n locked Q (after_part es u)
    same_part hold grant Q es t u is = finish_part m (holds hold grant) Q es t ∙ ap (after es) is ∙ sym (finish_part n locked Q es u)

  -- units, with so many that may be played
  abbrev SameUnits : ℕ → Type 0
  SameUnits left = (m n : ℕ) (hold hold' : ℕ) (grant grant' : Grant) (Q : Queue) (given given' done : ℕ) → 3 * left ≤ m → 3 * left ≤ n
      → finish m (holds hold' grant') Q (units_from (holds hold grant) left Q given done) ≡ finish n locked Q (units_from locked left Q given' done)

  module _ (most : ℕ) (same : SameBelow most) where
    closes_same : (m n : ℕ) (hold : ℕ) (grant : Grant) (Q : Queue) (end : Closing) → finish m (holds hold grant) Q (closes_as locked end) ≡ finish n locked Q (closes_as locked end)
    closes_same m n hold grant Q end =
        ap (λ (g : Given). let given : Given = ([] ++ g.0, (closes_as locked end).lines ++ g.1) in given) (told_none m (holds hold grant) Q ∙ sym (told_none n locked Q))

    -- a step goes on alike after a unit that is done
    goes_same : (left : ℕ) → SameUnits left → (m n : ℕ) (hold hold' : ℕ) (grant grant' : Grant) (Q : Queue) (given given' done : ℕ) → 3 * left + 1 ≤ m → 3 * left + 1 ≤ n
        → finish m (holds hold' grant') Q (goes_on (holds hold grant) left (units_from (holds hold grant) left) Q given done) ≡ finish n locked Q (goes_on locked left (units_from locked left) Q given' done)
    goes_same zero may m n hold hold' grant grant' Q given given' done few few' = closes_same m n hold' grant' Q (closing.DoneUnits done)
    goes_same (suc left) may zero n hold hold' grant grant' Q given given' done few few' = absurd (omega (arith, few))
    goes_same (suc left) may (suc m) n hold hold' grant grant' Q given given' done few few' =
        let h = holds hold grant in
        let rested : State = Rested (record { done = done; left = suc left }) in
        test_cases (is_spent grant hold given) (finish (suc m) (holds hold' grant') Q (goes_on h (suc left) (units_from h (suc left)) Q given done) ≡ finish n locked Q (units_from locked (suc left) Q given' done))
        (λ e. rw e (one_sitting m hold' grant' Q rested ∙ may m n hold' (hold_then grant' Q.config.hold hold' (length (all_entries (units_from (holds hold' grant') (suc left) Q 0 done).parts))) grant' grant' Q 0 given' done (omega (arith, few)) (omega (arith, few'))))
        (λ e. rw e (may (suc m) n hold hold' grant grant' Q given given' done (omega (arith, few)) (omega (arith, few'))))

    goes_by_same : (e : UnitEnd) (left : ℕ) → SameUnits left → (m n : ℕ) (hold hold' : ℕ) (grant grant' : Grant) (Q : Queue) (given given' done : ℕ) → 3 * left + 1 ≤ m → 3 * left + 1 ≤ n
        → finish m (holds hold' grant') Q (goes_on_by (holds hold grant) e left (units_from (holds hold grant) left) Q given done) ≡ finish n locked Q (goes_on_by locked e left (units_from locked left) Q given' done)
    goes_by_same ends.Done left may m n hold hold' grant grant' Q given given' done few few' = goes_same left may m n hold hold' grant grant' Q given given' (done + 1) few few'
    goes_by_same ends.Idle left may m n hold hold' grant grant' Q given given' done few few' = closes_same m n hold' grant' Q (closing.DoneUnits done)
    goes_by_same (ends.Refused end) left may m n hold hold' grant grant' Q given given' done few few' = closes_same m n hold' grant' Q end

    last_same : (es : List Entry) (left : ℕ) → SameUnits left → (m n : ℕ) (hold hold' : ℕ) (grant grant' : Grant) (Q : Queue) (given given' done : ℕ) → 3 * left + 1 ≤ m → 3 * left + 1 ≤ n
        → finish m (holds hold' grant') Q (last_part (holds hold grant) es left (units_from (holds hold grant) left) Q given done) ≡ finish n locked Q (last_part locked es left (units_from locked left) Q given' done)
    last_same es left may m n hold hold' grant grant' Q given given' done few few' =
        let h = holds hold grant in
        let e = end_by (closing_reply es) in
        finish_part m (holds hold' grant') Q es (goes_on_by h e left (units_from h left) (run Q es) (given + length es) done)
        ∙ ap (after es) (goes_by_same e left may m n hold hold' grant grant' (run Q es) (given + length es) (given' + length es) done few few')
        ∙ sym (finish_part n locked Q es (goes_on_by locked e left (units_from locked left) (run Q es) (given' + length es) done))

    -- acts that wait
    waits_same : (a : Aside) → aside_most a ≤ most → (m n : ℕ) (hold : ℕ) (grant : Grant) (Q : Queue) → aside_most a ≤ m → aside_most a ≤ n → finish m (holds hold grant) Q (leaves (Away a)) ≡ finish n locked Q (leaves (Away a))
    waits_same a below m n hold grant Q few few' = same (Away a) below m n hold grant Q few few'

    reads_same : (runs : Bool) (left : ℕ) → 3 * suc left ≤ most → (m n : ℕ) (hold : ℕ) (grant : Grant) (Q : Queue) (done : ℕ) (job : Option Job) → 3 * suc left ≤ m → 3 * suc left ≤ n
        → finish m (holds hold grant) Q (option_map_or (reads_job locked runs left done) job (closes_as locked (closing.DoneUnits done))) ≡ finish n locked Q (option_map_or (reads_job locked runs left done) job (closes_as locked (closing.DoneUnits done)))
    reads_same runs left below m n hold grant Q done None few few' = closes_same m n hold grant Q (closing.DoneUnits done)
    reads_same runs left below m n hold grant Q done (Some j) few few' = waits_same (ReadText runs j.number j.fields (record { done = done; left = left })) (omega (arith, below)) m n hold grant Q (omega (arith, few)) (omega (arith, few'))

    prints_same : (left : ℕ) → 3 * suc left ≤ most → (m n : ℕ) (hold : ℕ) (grant : Grant) (Q : Queue) (done : ℕ) (output : Option Output) → 3 * suc left ≤ m → 3 * suc left ≤ n
        → finish m (holds hold grant) Q (option_map_or (prints_output locked Q left done) output (closes_as locked (closing.DoneUnits done))) ≡ finish n locked Q (option_map_or (prints_output locked Q left done) output (closes_as locked (closing.DoneUnits done)))
    prints_same left below m n hold grant Q done None few few' = closes_same m n hold grant Q (closing.DoneUnits done)
    prints_same left below m n hold grant Q done (Some o) few few' = waits_same (PrintLines o.job o.index _ (record { done = done; left = left })) (omega (arith, below)) m n hold grant Q (omega (arith, few)) (omega (arith, few'))

    next_same : (u : units.Unit) (left : ℕ) → 3 * suc left ≤ most → SameUnits left → (m n : ℕ) (hold hold' : ℕ) (grant grant' : Grant) (Q : Queue) (given given' done : ℕ) → 3 * suc left ≤ m → 3 * suc left ≤ n
        → finish m (holds hold' grant') Q (next_unit (holds hold grant) u left (units_from (holds hold grant) left) Q given done) ≡ finish n locked Q (next_unit locked u left (units_from locked left) Q given' done)
    next_same (unit.Print k i) left below may m n hold hold' grant grant' Q given given' done few few' = prints_same left below m n hold' grant' Q done (output_at Q k i) few few'
    next_same (unit.Finish k i) left below may m n hold hold' grant grant' Q given given' done few few' = last_same (given_in Q by at (command.Done k i ∷ [])) left may m n hold hold' grant grant' Q given given' done (omega (arith, few)) (omega (arith, few'))
    next_same unit.Pick left below may m n hold hold' grant grant' Q given given' done few few' = last_same (given_in Q by at (command.Pick ∷ [])) left may m n hold hold' grant grant' Q given given' done (omega (arith, few)) (omega (arith, few'))
    next_same unit.Purge left below may m n hold hold' grant grant' Q given given' done few few' = last_same (given_in Q by at (command.Purge ∷ [])) left may m n hold hold' grant grant' Q given given' done (omega (arith, few)) (omega (arith, few'))
    next_same unit.Gather left below may m n hold hold' grant grant' Q given given' done few few' = last_same (given_in Q by at (command.Gather ∷ [])) left may m n hold hold' grant grant' Q given given' done (omega (arith, few)) (omega (arith, few'))
    next_same (unit.Run k) left below may m n hold hold' grant grant' Q given given' done few few' = reads_same true left below m n hold' grant' Q done (job_at Q k) few few'
    next_same (unit.Convert k) left below may m n hold hold' grant grant' Q given given' done few few' = reads_same false left below m n hold' grant' Q done (job_at Q k) few few'
    next_same unit.TakeExec left below may m n hold hold' grant grant' Q given given' done few few' = last_same (given_in Q by at (command.TakeExec ∷ [])) left may m n hold hold' grant grant' Q given given' done (omega (arith, few)) (omega (arith, few'))
    next_same unit.TakeConvert left below may m n hold hold' grant grant' Q given given' done few few' = last_same (given_in Q by at (command.TakeConvert ∷ [])) left may m n hold hold' grant grant' Q given given' done (omega (arith, few)) (omega (arith, few'))
    next_same unit.Idle left below may m n hold hold' grant grant' Q given given' done few few' = closes_same m n hold' grant' Q (closing.DoneUnits done)

    units_same : (left : ℕ) → 3 * left ≤ most → SameUnits left
    units_same zero below m n hold hold' grant grant' Q given given' done few few' = closes_same m n hold' grant' Q (closing.DoneUnits done)
    units_same (suc left) below m n hold hold' grant grant' Q given given' done few few' =
        next_same (unit_of Q by) left below (units_same left (omega (arith, below))) m n hold hold' grant grant' Q given given' done few few'

    -- A UNIT UNDER WAY

    module _ (m n : ℕ) (hold hold' : ℕ) (grant grant' : Grant) (Q : Queue) where
      abbrev h : Holder
      h = holds hold grant

      abbrev SameTurns : Turn → Turn → Type 0
      SameTurns t u = finish m (holds hold' grant') Q t ≡ finish n locked Q u

      module _ (p : Progress) where
        ends_same : (es : List Entry) → 3 * p.left ≤ most → 3 * p.left + 1 ≤ m → 3 * p.left + 1 ≤ n → SameTurns (ends_with h es p Q) (ends_with locked es p Q)
        ends_same es below few few' = last_same es p.left (units_same p.left below) m n hold hold' grant grant' Q 0 0 p.done few few'

        part_closes_same : (es : List Entry) (end : Closing) → SameTurns (after_part es (closes_as h end)) (after_part es (closes_as locked end))
        part_closes_same es end = finish_part m (holds hold' grant') Q es (closes_as h end) ∙ ap (after es) (closes_same m n hold' grant' (run Q es) end) ∙ sym (finish_part n locked Q es (closes_as locked end))

        outputs_same : (lost : Option ℕ) (k : JobNo) (specs : List OutSpec) → 3 * p.left ≤ most → 3 * p.left + 1 ≤ m → 3 * p.left + 1 ≤ n → SameTurns (outputs_stand h lost Q k specs p) (outputs_stand locked lost Q k specs p)
        outputs_same None k specs below few few' = ends_same (given_in Q by at (ending Q by k specs)) below few few'
        outputs_same (Some volume) k specs below few few' = part_closes_same (given_in Q by at (drop_groups ∷ [])) (closing.SpoolLost volume)

        taken_same : (refused : Bool) (needed : ℕ) (k : JobNo) (specs : List OutSpec) → 3 * p.left + 2 ≤ most → 3 * p.left + 2 ≤ m → 3 * p.left + 2 ≤ n → SameTurns (groups_taken h refused needed Q k specs p) (groups_taken locked refused needed Q k specs p)
        taken_same true needed k specs below few few' = ends_same (given_in Q by at (taking Q by needed)) (omega (arith, below)) (omega (arith, few)) (omega (arith, few'))
        taken_same false needed k specs below few few' =
            let es = given_in Q by at (takes needed Q by needed) in
            finish_part m (holds hold' grant') Q es (leaves (Away (SpoolOutputs k specs p)))
            ∙ ap (after es) (waits_same (SpoolOutputs k specs p) below m n hold' grant' (run Q es) few few')
            ∙ sym (finish_part n locked Q es (leaves (Away (SpoolOutputs k specs p))))

        job_same : (needed : ℕ) (k : JobNo) (specs : List OutSpec) → 3 * p.left + 2 ≤ most → 3 * p.left + 2 ≤ m → 3 * p.left + 2 ≤ n → SameTurns (job_ends h needed Q k specs p) (job_ends locked needed Q k specs p)
        job_same zero k specs below few few' = outputs_same None k specs (omega (arith, below)) (omega (arith, few)) (omega (arith, few'))
        job_same (suc needed) k specs below few few' = taken_same (are_refused (suc needed) Q by (suc needed)) (suc needed) k specs below few few'

        text_same : (o : Outcome) (k : JobNo) → 3 * p.left + 2 ≤ most → 3 * p.left + 2 ≤ m → 3 * p.left + 2 ≤ n → SameTurns (text_read h o Q k p) (text_read locked o Q k p)
        text_same outcome.Convert k below few few' = ends_same (given_in Q by at (command.Converted k ∷ [])) (omega (arith, below)) (omega (arith, few)) (omega (arith, few'))
        text_same (outcome.End specs) k below few few' = job_same (groups_for_end Q k specs) k specs below few few'
        text_same (outcome.Stop end) k below few few' = closes_same m n hold' grant' Q end

        printed_same : (end : Option Closing) (k : JobNo) (i : OutNo) (last : ℕ) → 3 * p.left ≤ most → 3 * p.left + 1 ≤ m → 3 * p.left + 1 ≤ n → SameTurns (lines_printed h end Q k i last p) (lines_printed locked end Q k i last p)
        printed_same None k i last below few few' = ends_same (given_in Q by at (command.Mark k i last ∷ [])) below few few'
        printed_same (Some end) k i last below few few' = closes_same m n hold' grant' Q end

    -- FROM EACH STATE that may have one sitting more
    module _ (m n : ℕ) (hold hold' : ℕ) (grant grant' : Grant) (Q : Queue) (found : Found) (enough : most ≤ m) (enough' : most ≤ n) where
      abbrev SameFrom : State → Type 0
      SameFrom s = finish m (holds hold' grant') Q (turn (holds hold grant) Q s found) ≡ finish n locked Q (turn locked Q s found)

      deck_same : (job : Option JobNo) (es : List Entry) (text : List (List ℕ)) → 1 ≤ most → finish m (holds hold' grant') Q (deck_opens locked job es text) ≡ finish n locked Q (deck_opens locked job es text)
      deck_same (Some k) es text below = same_turn most same m n enough enough' hold' grant' Q (deck_opens locked (Some k) es text) below
      deck_same None es text below = same_turn most same m n enough enough' hold' grant' Q (deck_opens locked None es text) (omega arith)

      task_same : (task : Task) → task_most task ≤ suc most → SameFrom (Fresh task)
      task_same (Give c) below = same_turn most same m n enough enough' hold' grant' Q (turn locked Q (Fresh (Give c)) found) (omega arith)
      task_same (Deck fields text) below = deck_same (job_opened Q by fields (groups_needed text)) (given_in Q by at (opening Q by fields (groups_needed text))) text (omega (arith, below))
      task_same (Line l) below = same_turn most same m n enough enough' hold' grant' Q (turn locked Q (Fresh (Line l)) found) (omega (arith, below))
      task_same (Work k) below = units_same k (omega (arith, below)) m n hold hold' grant grant' Q 0 0 0 (omega (arith, below, enough)) (omega (arith, below, enough'))

      aside_same : (a : Aside) → aside_most a ≤ suc most → SameFrom (Away a)
      aside_same (SpoolDeck k text) below = same_turn most same m n enough enough' hold' grant' Q (turn locked Q (Away (SpoolDeck k text)) found) (omega arith)
      aside_same (ReadText runs k fields p) below = text_same m n hold hold' grant grant' Q p (outcome_of runs fields found.read) k (omega (arith, below)) (omega (arith, below, enough)) (omega (arith, below, enough'))
      aside_same (SpoolOutputs k specs p) below = outputs_same m n hold hold' grant grant' Q p found.lost k specs (omega (arith, below)) (omega (arith, below, enough)) (omega (arith, below, enough'))
      aside_same (PrintLines k i last p) below = printed_same m n hold hold' grant grant' Q p (printed_end found.printer found.read) k i last (omega (arith, below)) (omega (arith, below, enough)) (omega (arith, below, enough'))
      aside_same (Exchange l offer) below =
          let within = (served_exchange locked Q (exchange_end offer l found) l found).within in
          same_turn most same m n enough enough' hold' grant' Q (turn locked Q (Away (Exchange l offer)) found) (omega (arith, within, below))
      aside_same (SpoolArrival number k text v) below =
          let within = (served_stored locked Q number k v found.lost text).within in
          same_turn most same m n enough enough' hold' grant' Q (turn locked Q (Away (SpoolArrival number k text v)) found) (omega (arith, within, below))
      aside_same (Acknowledge number v) below =
          let within = (served_acknowledged locked Q number found.wire v).within in
          same_turn most same m n enough enough' hold' grant' Q (turn locked Q (Away (Acknowledge number v)) found) (omega (arith, within, below))

      turn_same : (s : State) → s ≢ Told → sittings_most s ≤ suc most → SameFrom s
      turn_same (Fresh task) ne below = task_same task below
      turn_same (Away aside) ne below = aside_same aside below
      turn_same (Rested p) ne below = units_same p.left (omega (arith, below)) m n hold hold' grant grant' Q 0 0 p.done (omega (arith, below, enough)) (omega (arith, below, enough'))
      turn_same Told ne below = absurd (ne refl)

  told_same : Same Told
  told_same m n hold grant Q few few' = told_none m (holds hold grant) Q ∙ sym (told_none n locked Q)

  open_same : (most : ℕ) → SameBelow most → (s : State) → s ≢ Told → sittings_most s ≤ suc most → Same s
  open_same most same s ne below zero n hold grant Q few few' = let some = some_may_follow s ne in absurd (omega (arith, some, few))
  open_same most same s ne below (suc m) zero hold grant Q few few' = let some = some_may_follow s ne in absurd (omega (arith, some, few'))
  open_same most same s ne below (suc m) (suc n) hold grant Q few few' =
      let some = some_may_follow s ne in
      let exact = sittings_most s - 1 in
      let then_hold = hold_then grant Q.config.hold hold (length (all_entries (turn (holds hold grant) Q s (finds Q s)).parts)) in
      one_sitting m hold grant Q s
      ∙ turn_same exact (λ s' le. same s' (omega (arith, le, below))) m n hold then_hold grant grant Q (finds Q s) (omega (arith, few, some)) (omega (arith, few', some)) s ne (omega (arith, some))
      ∙ sym (one_locked n Q s)

  all_same : (most : ℕ) → SameBelow most
  all_same zero s below = by_state (λ s. sittings_most s ≤ 0 → Same s) (λ le. told_same) (λ s ne le. let some = some_may_follow s ne in absurd (omega (arith, some, le))) s below
  all_same (suc most) s below = by_state (λ s. sittings_most s ≤ suc most → Same s) (λ le. told_same) (λ s ne le. open_same most (all_same most) s ne le) s below

  pub holds_give_alike : (task : Task) (hold : ℕ) (grant : Grant) (Q : Queue) → all_given (course finds Q (holds hold grant) task) ≡ all_given (course finds Q locked task)
  holds_give_alike task hold grant Q = all_same (task_most task) (Fresh task) (omega arith) (task_most task) (task_most task) hold grant Q (omega arith) (omega arith)

pub holds_change_no_entry : HoldsChangeNoEntry
holds_change_no_entry finds Q h task hold grant = holds_give_alike finds h.by h.step task hold grant Q ∙ sym (holds_give_alike finds h.by h.step task h.hold h.grant Q)
