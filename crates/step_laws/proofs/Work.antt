-- The sittings of a step of work give what its units give one after another.
use Rattle.std.proofs.Common.{◌≡◌, ◌≢◌, ℕ, zero, suc, ◌+◌, ◌*◌, ◌≤◌, nat_le, Bool, true, false, if◌then◌else◌, List, [], ◌∷◌, ◌++◌, length, append-nil, Option, Some, None, refl, sym, ap, ◌∙◌, arith}
use Rattle.std.specs.Option.{option_map_or}
use Rattle.mas_types.specs.declared.answers.Closing.{Closing}
use Rattle.mas_types.specs.declared.answers.Closing.TheVariants as closing
use Rattle.mas_types.specs.declared.commands.Command.{Command}
use Rattle.mas_types.specs.declared.commands.Command.TheVariants as command
use Rattle.mas_types.specs.declared.commands.Reply.{Reply}
use Rattle.mas_types.specs.declared.ids.JobNo.{JobNo}
use Rattle.mas_types.specs.declared.ids.OutNo.{OutNo}
use Rattle.mas_types.specs.declared.jobs.Job.{Job}
use Rattle.mas_types.specs.declared.jobs.OutSpec.{OutSpec}
use Rattle.mas_types.specs.declared.jobs.Output.{Output}
use Rattle.mas_types.specs.declared.journals.Entry.{Entry}
use Rattle.mas_types.specs.declared.queues.Queue.{Queue}
use Rattle.mas_types.specs.declared.units.Unit as units
use Rattle.mas_types.specs.declared.units.Unit.TheVariants as unit
use Rattle.mas_types.specs.Closings.{closing_line}
use Rattle.mas_types.specs.Queue.{job_at, output_at}
use Rattle.mas_types.specs.Run.{run}
use Rattle.mas_types.specs.Units.{unit_of}
use Rattle.queue_laws.proofs.Finds.{test_cases}
use Rattle.job_outcome.specs.declared.outcomes.Outcome.{Outcome}
use Rattle.job_outcome.specs.declared.outcomes.Outcome.TheVariants as outcome
use Rattle.job_outcome.specs.declared.outcomes.Read.{Read}
use Rattle.job_outcome.specs.declared.units.UnitEnd.{UnitEnd}
use Rattle.job_outcome.specs.declared.units.UnitEnd.TheVariants as ends
use Rattle.job_outcome.specs.Next.{end_by}
use Rattle.job_outcome.specs.Outcomes.{outcome_of}
use Rattle.member_work.specs.Looks.{Look, read_of}
use Rattle.member_work.specs.Units.{UnitPlay, behind_acts, ended_with, job_play, mark_play, no_unit, outcome_for, outcome_play, output_play, spooled, taken, taken_queue, unit_play}
use Rattle.member_work.specs.Work.{Round, queue_behind, round_of, round_play, rounds_by}
use Rattle.step_turns.specs.Batches.{is_full}
use Rattle.step_turns.specs.Courses.{Course, Finds}
use Rattle.step_turns.specs.Decks.{are_refused, takes}
use Rattle.step_turns.specs.Entries.{all_entries, closing_reply, given_in, reply_to}
use Rattle.step_turns.specs.JobEnds.{chunk_end, drop_groups, ending, groups_for_end, printed_end, taking}
use Rattle.step_turns.specs.declared.states.Aside.{Aside}
use Rattle.step_turns.specs.declared.states.Grant.{Grant}
use Rattle.step_turns.specs.declared.states.Holder.{Holder}
use Rattle.step_turns.specs.declared.states.Progress.{Progress}
use Rattle.step_turns.specs.declared.states.State.TheVariants.{Away, Rested}
use Rattle.step_turns.specs.declared.states.Grant.TheVariants.{ForStep}
use Rattle.step_turns.specs.declared.states.Aside.TheVariants.{PrintLines, ReadText, SpoolOutputs}
use Rattle.step_turns.specs.Turns.{after_part, aside_turn, closes_as, goes_on, goes_on_by, groups_taken, is_spent, job_ends, leaves, lines_printed, next_unit, outputs_stand, prints_output, reads_job, text_read, units_from}
use Rattle.step_turns.proofs.Given.{run_append}
use Rattle.step_laws.proofs.Courses.{batches_first, finishes, finishes_closed, finishes_last, finishes_part, finishes_part_closed, keeps_hold, not_idle, one_sitting, works, works_by, works_first, works_full, works_last, works_on, works_part, works_spent, written_first}

-- a unit that has a part, and in which something applies
abbrev IsPlayed : UnitPlay → Type 0
IsPlayed u = (1 ≤ length u.parts) × (u.ends ≢ ends.Idle)

refused_not_idle : (end : Closing) → ends.Refused end ≢ ends.Idle
refused_not_idle end e = absurd (cc)

-- the unit that reads the text of a job with this number
abbrev pub reading : Bool → JobNo → units.Unit
reading true n = unit.Run n
reading false n = unit.Convert n

module _ (finds : Finds) (h : Holder) (for_step : h.grant ≡ ForStep) (look : ℕ → ℕ → Queue → Look) where
  abbrev pub progress : ℕ → ℕ → Progress
  progress left done = record { done = done; left = left }

  -- the units of a step, where so many may be played and so many are done
  abbrev pub rounds_at : ℕ → ℕ → Queue → List Round
  rounds_at zero done Q = []
  rounds_at (suc left) done Q =
      let r = round_of Q (look left done Q) in
      rounds_by (round_play h.by h.step r).ends r (rounds_at left (done + 1) (queue_behind h.by h.step r))

  -- what the acts find is what the looks say
  pub record Agrees : Type 0 where
    pub reads : (left done : ℕ) (Q : Queue) (runs : Bool) (n : JobNo) (j : Job) → unit_of Q h.by ≡ reading runs n → job_at Q n ≡ Some j
        → (finds Q (Away (ReadText runs j.number j.fields (progress left done)))).read ≡ read_of (look left done Q).read j.text
    pub spools : (left done : ℕ) (Q : Queue) (runs : Bool) (n : JobNo) (j : Job) (specs : List OutSpec) → unit_of Q h.by ≡ reading runs n → job_at Q n ≡ Some j → outcome_for runs (look left done Q) j ≡ outcome.End specs
        → (finds (taken_queue Q h.by h.step (groups_for_end Q j.number specs)) (Away (SpoolOutputs j.number specs (progress left done)))).lost ≡ (look left done Q).lost
    pub prints : (left done : ℕ) (Q : Queue) (n : JobNo) (i : OutNo) (o : Output) → unit_of Q h.by ≡ unit.Print n i → output_at Q n i ≡ Some o
        → ((finds Q (Away (PrintLines o.job o.index (chunk_end Q h.by o) (progress left done)))).read ≡ read_of (look left done Q).read o.text)
        × ((finds Q (Away (PrintLines o.job o.index (chunk_end Q h.by o) (progress left done)))).printer ≡ (look left done Q).printer)

  abbrev Wants : ℕ → List Entry → ℕ → UnitPlay → List Round → Course
  Wants given so_far done u rs = works_by h.by h.step h.hold given so_far done u rs

  -- work of so many units at most goes on from each queue as it should
  abbrev GoOn : ℕ → Type 0
  GoOn left = (n given done : ℕ) (so_far : List Entry) (Q : Queue) → 3 * left ≤ n → Q.config.hold ≡ h.hold
      → finishes finds h n Q so_far (units_from h left Q given done) ≡ works h.by h.step h.hold given so_far done (rounds_at left done Q)

  -- A LAST PART

  closed_part : (n given done : ℕ) (so_far es : List Entry) (Q : Queue) (end : Closing)
      → finishes finds h n Q so_far (after_part es (closes_as h end)) ≡ Wants given so_far done (record { parts = es ∷ []; ends = ends.Refused end }) []
  closed_part n given done so_far es Q end =
      finishes_part_closed finds h for_step n Q so_far es end
      ∙ sym (ap (λ (bs : List (List Entry)). record { batches = bs; lines = closing_line h.by h.step end ∷ [] }) (works_last h.by h.step h.hold given so_far es))

  -- the hold is spent, and more may follow
  rested_part : (left : ℕ) → GoOn (suc left) → (n given done : ℕ) (so_far es : List Entry) (Q : Queue) → 3 * suc left + 1 ≤ n → Q.config.hold ≡ h.hold → nat_le h.hold (given + length es) ≡ true
      → finishes finds h n Q so_far (after_part es (goes_on h (suc left) (units_from h (suc left)) (run Q es) (given + length es) (done + 1)))
      ≡ Wants given so_far done (record { parts = es ∷ []; ends = ends.Done }) (rounds_at (suc left) (done + 1) (run Q es))
  rested_part left may zero given done so_far es Q few whole e = absurd (omega (arith, few))
  rested_part left may (suc n) given done so_far es Q few whole e =
      let p = progress (suc left) (done + 1) in
      let spent : is_spent h.grant h.hold (given + length es) ≡ true = ap (λ (g : Grant). is_spent g h.hold (given + length es)) for_step ∙ e in
      let keeps = keeps_hold finds h Q es whole in
      let more = one_sitting finds h for_step n (run Q es) (Rested p) keeps ∙ may n 0 (done + 1) [] (run Q es) (omega (arith, few)) keeps in
      ap (λ (b : Bool). finishes finds h (suc n) Q so_far (after_part es (if b then leaves (Rested p) else units_from h (suc left) (run Q es) (given + length es) (done + 1)))) spent
      ∙ finishes_last finds h for_step (suc n) Q so_far es (Rested p) []
      ∙ ap (λ (c : Course). written_first (so_far ++ es) c) more
      ∙ sym (works_spent h.by h.step h.hold given so_far done es (rounds_at (suc left) (done + 1) (run Q es)) e)

  -- the hold isn't spent, and more may follow
  going_part : (left : ℕ) → GoOn (suc left) → (n given done : ℕ) (so_far es : List Entry) (Q : Queue) → 3 * suc left + 1 ≤ n → Q.config.hold ≡ h.hold → nat_le h.hold (given + length es) ≡ false
      → finishes finds h n Q so_far (after_part es (goes_on h (suc left) (units_from h (suc left)) (run Q es) (given + length es) (done + 1)))
      ≡ Wants given so_far done (record { parts = es ∷ []; ends = ends.Done }) (rounds_at (suc left) (done + 1) (run Q es))
  going_part left may n given done so_far es Q few whole e =
      let g = given + length es in
      let x = so_far ++ es in
      let next = units_from h (suc left) (run Q es) g (done + 1) in
      let rs = rounds_at (suc left) (done + 1) (run Q es) in
      let unspent : is_spent h.grant h.hold g ≡ false = ap (λ (g' : Grant). is_spent g' h.hold g) for_step ∙ e in
      let keeps = keeps_hold finds h Q es whole in
      ap (λ (b : Bool). finishes finds h n Q so_far (after_part es (if b then leaves (Rested (progress (suc left) (done + 1))) else next))) unspent
      ∙ finishes_part finds h for_step n Q so_far es next
      ∙ test_cases (is_full x) ((if is_full x then written_first x (finishes finds h n (run Q es) [] next) else finishes finds h n (run Q es) x next) ≡ Wants given so_far done (record { parts = es ∷ []; ends = ends.Done }) rs)
      (λ f. ap (λ (b : Bool). if b then written_first x (finishes finds h n (run Q es) [] next) else finishes finds h n (run Q es) x next) f
      ∙ ap (λ (c : Course). written_first x c) (may n g (done + 1) [] (run Q es) (omega (arith, few)) keeps)
      ∙ sym (works_full h.by h.step h.hold given so_far done es rs e f))
      (λ f. ap (λ (b : Bool). if b then written_first x (finishes finds h n (run Q es) [] next) else finishes finds h n (run Q es) x next) f
      ∙ may n g (done + 1) x (run Q es) (omega (arith, few)) keeps
      ∙ sym (works_on h.by h.step h.hold given so_far done es rs e f))

  done_part : (left : ℕ) → GoOn left → (n given done : ℕ) (so_far es : List Entry) (Q : Queue) → 3 * left + 1 ≤ n → Q.config.hold ≡ h.hold
      → finishes finds h n Q so_far (after_part es (goes_on h left (units_from h left) (run Q es) (given + length es) (done + 1)))
      ≡ Wants given so_far done (record { parts = es ∷ []; ends = ends.Done }) (rounds_at left (done + 1) (run Q es))
  done_part zero may n given done so_far es Q few whole = closed_part n given done so_far es Q (closing.DoneUnits (done + 1))
  done_part (suc left) may n given done so_far es Q few whole =
      test_cases (nat_le h.hold (given + length es)) (finishes finds h n Q so_far (after_part es (goes_on h (suc left) (units_from h (suc left)) (run Q es) (given + length es) (done + 1)))
      ≡ Wants given so_far done (record { parts = es ∷ []; ends = ends.Done }) (rounds_at (suc left) (done + 1) (run Q es)))
      (λ e. rested_part left may n given done so_far es Q few whole e)
      (λ e. going_part left may n given done so_far es Q few whole e)

  last_part_works : (left : ℕ) → GoOn left → (n given done : ℕ) (so_far es : List Entry) (Q : Queue) (e : UnitEnd) → e ≢ ends.Idle → 3 * left + 1 ≤ n → Q.config.hold ≡ h.hold
      → finishes finds h n Q so_far (after_part es (goes_on_by h e left (units_from h left) (run Q es) (given + length es) done))
      ≡ Wants given so_far done (record { parts = es ∷ []; ends = e }) (rounds_at left (done + 1) (run Q es))
  last_part_works left may n given done so_far es Q ends.Done ne few whole = done_part left may n given done so_far es Q few whole
  last_part_works left may n given done so_far es Q ends.Idle ne few whole = absurd (ne refl)
  last_part_works left may n given done so_far es Q (ends.Refused end) ne few whole = closed_part n given done so_far es Q end

  -- a unit's last part, with its entries written as those of all parts
  whole_part_works : (left : ℕ) → GoOn left → (n given done : ℕ) (so_far es : List Entry) (Q : Queue) (e : UnitEnd) → e ≢ ends.Idle → 3 * left + 1 ≤ n → Q.config.hold ≡ h.hold
      → finishes finds h n Q so_far (after_part es (goes_on_by h e left (units_from h left) (run Q es) (given + length es) done))
      ≡ Wants given so_far done (record { parts = es ∷ []; ends = e }) (rounds_at left (done + 1) (run Q (es ++ [])))
  whole_part_works left may n given done so_far es Q e ne few whole =
      last_part_works left may n given done so_far es Q e ne few whole
      ∙ ap (λ (fs : List Entry). Wants given so_far done (record { parts = es ∷ []; ends = e }) (rounds_at left (done + 1) (run Q fs))) (sym (append-nil es))

  -- A UNIT UNDER WAY, with so many that may follow it

  module _ (left : ℕ) (may : GoOn left) (done : ℕ) where
    -- a unit that is played from a queue on, and those after it
    abbrev Plays : Queue → List Entry → ℕ → UnitPlay → Course
    Plays Q so_far given u = Wants given so_far done u (rounds_at left (done + 1) (run Q (all_entries u.parts)))

    spooled_works : (lost : Option ℕ) (n : ℕ) (Q : Queue) (m : JobNo) (specs : List OutSpec) → 3 * left + 1 ≤ n → Q.config.hold ≡ h.hold
        → finishes finds h n Q [] (outputs_stand h lost Q m specs (progress left done)) ≡ Plays Q [] 0 (spooled lost Q h.by h.step m specs)
    spooled_works None n Q m specs few whole =
        let es = given_in Q h.by h.step (ending Q h.by m specs) in
        whole_part_works left may n 0 done [] es Q (end_by (closing_reply es)) (not_idle (closing_reply es)) few whole
    spooled_works (Some volume) n Q m specs few whole =
        whole_part_works left may n 0 done [] (given_in Q h.by h.step (drop_groups ∷ [])) Q (ends.Refused (closing.SpoolLost volume)) (refused_not_idle (closing.SpoolLost volume)) few whole

    spooled_played : (lost : Option ℕ) (Q : Queue) (m : JobNo) (specs : List OutSpec) → IsPlayed (spooled lost Q h.by h.step m specs)
    spooled_played None Q m specs = (omega arith, not_idle (closing_reply (given_in Q h.by h.step (ending Q h.by m specs))))
    spooled_played (Some volume) Q m specs = (omega arith, refused_not_idle (closing.SpoolLost volume))

    -- acts after a part that is written before them
    acts_works : (given : ℕ) (so_far es : List Entry) (parts : List (List Entry)) (e : UnitEnd) (rs : List Round) → 1 ≤ length parts → e ≢ ends.Idle
        → Wants given so_far done (record { parts = es ∷ parts; ends = e }) rs ≡ written_first (so_far ++ es) (Wants 0 [] done (record { parts = parts; ends = e }) rs)
    acts_works given so_far es [] e rs some ne = absurd (omega (arith, some))
    acts_works given so_far es (q ∷ qs) e rs some ne = works_part h.by h.step h.hold given so_far done es q qs e rs ne

    -- the groups are taken, the outputs are written, and the job ends
    groups_works : (n : ℕ) (Q : Queue) (m : JobNo) (specs : List OutSpec) (needed : ℕ) (lost : Option ℕ) → 3 * left + 2 ≤ n → Q.config.hold ≡ h.hold
        → (finds (taken_queue Q h.by h.step needed) (Away (SpoolOutputs m specs (progress left done)))).lost ≡ lost
        → finishes finds h n Q [] (after_part (given_in Q h.by h.step (takes needed Q h.by needed)) (leaves (Away (SpoolOutputs m specs (progress left done)))))
        ≡ Plays Q [] 0 (behind_acts (given_in Q h.by h.step (takes needed Q h.by needed)) (spooled lost (taken_queue Q h.by h.step needed) h.by h.step m specs))
    groups_works zero Q m specs needed lost few whole same = absurd (omega (arith, few))
    groups_works (suc n) Q m specs needed lost few whole same =
        let es = given_in Q h.by h.step (takes needed Q h.by needed) in
        let R = run Q es in
        let a = Away (SpoolOutputs m specs (progress left done)) in
        let keeps = keeps_hold finds h Q es whole in
        let u = spooled lost R h.by h.step m specs in
        let played = spooled_played lost R m specs in
        finishes_last finds h for_step (suc n) Q [] es a []
        ∙ ap (λ (c : Course). written_first es c)
        (one_sitting finds h for_step n R a keeps
        ∙ ap (λ (l : Option ℕ). finishes finds h n R [] (outputs_stand h l R m specs (progress left done))) same
        ∙ spooled_works lost n R m specs (omega (arith, few)) keeps
        ∙ ap (λ (R' : Queue). Wants 0 [] done u (rounds_at left (done + 1) R')) (sym (run_append Q es (all_entries u.parts))))
        ∙ sym (acts_works 0 [] es u.parts u.ends (rounds_at left (done + 1) (run Q (es ++ all_entries u.parts))) played.0 played.1)

    taken_works : (refused : Bool) (n : ℕ) (Q : Queue) (m : JobNo) (specs : List OutSpec) (needed : ℕ) (lost : Option ℕ) → 3 * left + 2 ≤ n → Q.config.hold ≡ h.hold
        → (finds (taken_queue Q h.by h.step needed) (Away (SpoolOutputs m specs (progress left done)))).lost ≡ lost
        → finishes finds h n Q [] (groups_taken h refused needed Q m specs (progress left done)) ≡ Plays Q [] 0 (taken refused Q h.by h.step needed (λ R. spooled lost R h.by h.step m specs))
    taken_works true n Q m specs needed lost few whole same =
        let es = given_in Q h.by h.step (taking Q h.by needed) in
        whole_part_works left may n 0 done [] es Q (end_by (closing_reply es)) (not_idle (closing_reply es)) (omega (arith, few)) whole
    taken_works false n Q m specs needed lost few whole same = groups_works n Q m specs needed lost few whole same

    end_works : (needed n : ℕ) (Q : Queue) (m : JobNo) (specs : List OutSpec) (lost : Option ℕ) → 3 * left + 2 ≤ n → Q.config.hold ≡ h.hold
        → (finds (taken_queue Q h.by h.step needed) (Away (SpoolOutputs m specs (progress left done)))).lost ≡ lost
        → finishes finds h n Q [] (job_ends h needed Q m specs (progress left done)) ≡ Plays Q [] 0 (ended_with needed lost Q h.by h.step (λ l R. spooled l R h.by h.step m specs))
    end_works zero n Q m specs lost few whole same = spooled_works None n Q m specs (omega (arith, few)) whole
    end_works (suc needed) n Q m specs lost few whole same = taken_works (are_refused (suc needed) Q h.by (suc needed)) n Q m specs (suc needed) lost few whole same

    -- what work gives once a text was read
    stopped_works : (n : ℕ) (Q : Queue) (end : Closing) (rs : List Round) → finishes finds h n Q [] (closes_as h end) ≡ Wants 0 [] done (record { parts = [] ∷ []; ends = ends.Refused end }) rs
    stopped_works n Q end rs =
        finishes_closed finds h for_step n Q [] end
        ∙ sym (ap (λ (bs : List (List Entry)). record { batches = bs; lines = closing_line h.by h.step end ∷ [] }) (works_last h.by h.step h.hold 0 [] []))

    outcome_works : (o : Outcome) (n : ℕ) (Q : Queue) (m : JobNo) (lost : Option ℕ) → 3 * left + 2 ≤ n → Q.config.hold ≡ h.hold
        → ((specs : List OutSpec) → o ≡ outcome.End specs → (finds (taken_queue Q h.by h.step (groups_for_end Q m specs)) (Away (SpoolOutputs m specs (progress left done)))).lost ≡ lost)
        → finishes finds h n Q [] (text_read h o Q m (progress left done)) ≡ Plays Q [] 0 (outcome_play lost Q h.by h.step m o)
    outcome_works outcome.Convert n Q m lost few whole same =
        last_part_works left may n 0 done [] (given_in Q h.by h.step (command.Converted m ∷ [])) Q (end_by (reply_to Q h.by (command.Converted m))) (not_idle (reply_to Q h.by (command.Converted m))) (omega (arith, few)) whole
    outcome_works (outcome.End specs) n Q m lost few whole same = end_works (groups_for_end Q m specs) n Q m specs lost few whole (same specs refl)
    outcome_works (outcome.Stop end) n Q m lost few whole same = stopped_works n Q end (rounds_at left (done + 1) Q)

    marked_works : (end : Option Closing) (n : ℕ) (Q : Queue) (m : JobNo) (i : OutNo) (last : ℕ) → 3 * left + 1 ≤ n → Q.config.hold ≡ h.hold
        → finishes finds h n Q [] (lines_printed h end Q m i last (progress left done)) ≡ Plays Q [] 0 (mark_play Q h.by h.step (command.Mark m i last) end)
    marked_works None n Q m i last few whole =
        last_part_works left may n 0 done [] (given_in Q h.by h.step (command.Mark m i last ∷ [])) Q (end_by (reply_to Q h.by (command.Mark m i last))) (not_idle (reply_to Q h.by (command.Mark m i last))) few whole
    marked_works (Some end) n Q m i last few whole = stopped_works n Q end (rounds_at left (done + 1) Q)

    -- each has a part
    taken_played : (refused : Bool) (lost : Option ℕ) (Q : Queue) (m : JobNo) (specs : List OutSpec) (needed : ℕ) → IsPlayed (taken refused Q h.by h.step needed (λ R. spooled lost R h.by h.step m specs))
    taken_played true lost Q m specs needed = (omega arith, not_idle (closing_reply (given_in Q h.by h.step (taking Q h.by needed))))
    taken_played false lost Q m specs needed = (omega arith, (spooled_played lost (taken_queue Q h.by h.step needed) m specs).1)

    ended_played : (needed : ℕ) (lost : Option ℕ) (Q : Queue) (m : JobNo) (specs : List OutSpec) → IsPlayed (ended_with needed lost Q h.by h.step (λ l R. spooled l R h.by h.step m specs))
    ended_played zero lost Q m specs = spooled_played None Q m specs
    ended_played (suc needed) lost Q m specs = taken_played (are_refused (suc needed) Q h.by (suc needed)) lost Q m specs (suc needed)

    outcome_played : (o : Outcome) (lost : Option ℕ) (Q : Queue) (m : JobNo) → IsPlayed (outcome_play lost Q h.by h.step m o)
    outcome_played outcome.Convert lost Q m = (omega arith, not_idle (reply_to Q h.by (command.Converted m)))
    outcome_played (outcome.End specs) lost Q m = ended_played (groups_for_end Q m specs) lost Q m specs
    outcome_played (outcome.Stop end) lost Q m = (omega arith, refused_not_idle end)

    mark_played : (end : Option Closing) (Q : Queue) (m : JobNo) (i : OutNo) (last : ℕ) → IsPlayed (mark_play Q h.by h.step (command.Mark m i last) end)
    mark_played None Q m i last = (omega arith, not_idle (reply_to Q h.by (command.Mark m i last)))
    mark_played (Some end) Q m i last = (omega arith, refused_not_idle end)

    -- the acts of a unit that begins with them
    waits_works : (n given : ℕ) (so_far : List Entry) (Q : Queue) (a : Aside) (u : UnitPlay) → Q.config.hold ≡ h.hold → IsPlayed u
        → finishes finds h n Q [] (aside_turn h Q a (finds Q (Away a))) ≡ Plays Q [] 0 u
        → finishes finds h (suc n) Q so_far (leaves (Away a)) ≡ Plays Q so_far given (behind_acts [] u)
    waits_works n given so_far Q a u whole played is =
        ap (λ (c : Course). written_first so_far c) (one_sitting finds h for_step n Q (Away a) whole ∙ is)
        ∙ ap (λ (es : List Entry). written_first es (Plays Q [] 0 u)) (sym (append-nil so_far))
        ∙ sym (acts_works given so_far [] u.parts u.ends (rounds_at left (done + 1) (run Q (all_entries u.parts))) played.0 played.1)

    none_works : (n given : ℕ) (so_far : List Entry) (Q : Queue) → finishes finds h n Q so_far (closes_as h (closing.DoneUnits done)) ≡ Plays Q so_far given no_unit
    none_works n given so_far Q =
        finishes_closed finds h for_step n Q so_far (closing.DoneUnits done)
        ∙ sym (ap (λ (bs : List (List Entry)). record { batches = bs; lines = closing_line h.by h.step (closing.DoneUnits done) ∷ [] }) (batches_first so_far []))

    -- THE NEXT UNIT
    module _ (agrees : Agrees) (Q : Queue) (whole : Q.config.hold ≡ h.hold) (given : ℕ) (so_far : List Entry) where
      job_works : (runs : Bool) (m : JobNo) (job : Option Job) → unit_of Q h.by ≡ reading runs m → job_at Q m ≡ job → (n : ℕ) → 3 * suc left ≤ n
          → finishes finds h n Q so_far (option_map_or (reads_job h runs left done) job (closes_as h (closing.DoneUnits done))) ≡ Plays Q so_far given (option_map_or (job_play runs Q h.by h.step (look left done Q)) job no_unit)
      job_works runs m None of is n few = none_works n given so_far Q
      job_works runs m (Some j) of is zero few = absurd (omega (arith, few))
      job_works runs m (Some j) of is (suc n) few =
          let o = outcome_for runs (look left done Q) j in
          waits_works n given so_far Q (ReadText runs j.number j.fields (progress left done)) (outcome_play (look left done Q).lost Q h.by h.step j.number o) whole (outcome_played o (look left done Q).lost Q j.number)
          (ap (λ (found : Read). finishes finds h n Q [] (text_read h (outcome_of runs j.fields found) Q j.number (progress left done))) (agrees.reads left done Q runs m j of is)
          ∙ outcome_works o n Q j.number (look left done Q).lost (omega (arith, few)) whole (λ specs e. agrees.spools left done Q runs m j specs of is e))

      print_works : (m : JobNo) (i : OutNo) (output : Option Output) → unit_of Q h.by ≡ unit.Print m i → output_at Q m i ≡ output → (n : ℕ) → 3 * suc left ≤ n
          → finishes finds h n Q so_far (option_map_or (prints_output h Q left done) output (closes_as h (closing.DoneUnits done))) ≡ Plays Q so_far given (option_map_or (output_play Q h.by h.step (look left done Q)) output no_unit)
      print_works m i None of is n few = none_works n given so_far Q
      print_works m i (Some o) of is zero few = absurd (omega (arith, few))
      print_works m i (Some o) of is (suc n) few =
          let last = chunk_end Q h.by o in
          let end = printed_end (look left done Q).printer (read_of (look left done Q).read o.text) in
          let same = agrees.prints left done Q m i o of is in
          let f = finds Q (Away (PrintLines o.job o.index last (progress left done))) in
          waits_works n given so_far Q (PrintLines o.job o.index last (progress left done)) (mark_play Q h.by h.step (command.Mark o.job o.index last) end) whole (mark_played end Q o.job o.index last)
          (ap (λ (found : Read). finishes finds h n Q [] (lines_printed h (printed_end f.printer found) Q o.job o.index last (progress left done))) same.0
          ∙ ap (λ (lost : Bool). finishes finds h n Q [] (lines_printed h (printed_end lost (read_of (look left done Q).read o.text)) Q o.job o.index last (progress left done))) same.1
          ∙ marked_works end n Q o.job o.index last (omega (arith, few)) whole)

      -- a unit of one command
      one_works : (c : Command) → closing_reply (given_in Q h.by h.step (c ∷ [])) ≡ reply_to Q h.by c → (n : ℕ) → 3 * suc left ≤ n
          → finishes finds h n Q so_far (after_part (given_in Q h.by h.step (c ∷ [])) (goes_on_by h (end_by (closing_reply (given_in Q h.by h.step (c ∷ [])))) left (units_from h left) (run Q (given_in Q h.by h.step (c ∷ []))) (given + length (given_in Q h.by h.step (c ∷ []))) done))
          ≡ Plays Q so_far given (record { parts = given_in Q h.by h.step (c ∷ []) ∷ []; ends = end_by (reply_to Q h.by c) })
      one_works c is n few =
          let es = given_in Q h.by h.step (c ∷ []) in
          last_part_works left may n given done so_far es Q (end_by (closing_reply es)) (not_idle (closing_reply es)) (omega (arith, few)) whole
          ∙ ap (λ (r : Reply). Plays Q so_far given (record { parts = es ∷ []; ends = end_by r })) is

      next_works : (u : units.Unit) → unit_of Q h.by ≡ u → (n : ℕ) → 3 * suc left ≤ n
          → finishes finds h n Q so_far (next_unit h u left (units_from h left) Q given done) ≡ Plays Q so_far given (unit_play Q h.by h.step (look left done Q) u)
      next_works (unit.Print m i) of n few = print_works m i (output_at Q m i) of refl n few
      next_works (unit.Finish m i) of n few = one_works (command.Done m i) refl n few
      next_works unit.Pick of n few = one_works command.Pick refl n few
      next_works unit.Purge of n few = one_works command.Purge refl n few
      next_works unit.Gather of n few = one_works command.Gather refl n few
      next_works (unit.Run m) of n few = job_works true m (job_at Q m) of refl n few
      next_works (unit.Convert m) of n few = job_works false m (job_at Q m) of refl n few
      next_works unit.TakeExec of n few = one_works command.TakeExec refl n few
      next_works unit.TakeConvert of n few = one_works command.TakeConvert refl n few
      next_works unit.Idle of n few = none_works n given so_far Q

  -- UNITS ONE AFTER ANOTHER

  pub units_work : Agrees → (left : ℕ) → GoOn left
  units_work agrees zero n given done so_far Q few whole =
      finishes_closed finds h for_step n Q so_far (closing.DoneUnits done)
      ∙ sym (ap (λ (bs : List (List Entry)). record { batches = bs; lines = closing_line h.by h.step (closing.DoneUnits done) ∷ [] }) (batches_first so_far []))
  units_work agrees (suc left) n given done so_far Q few whole =
      let r = round_of Q (look left done Q) in
      next_works left (units_work agrees left) done agrees Q whole given so_far (unit_of Q h.by) refl n few
      ∙ sym (works_first h.by h.step h.hold given so_far done r (rounds_at left (done + 1) (queue_behind h.by h.step r)))
