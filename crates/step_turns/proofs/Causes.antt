-- Why a step closes as it does.
use Rattle.std.proofs.Common.{◌≡◌, ◌≢◌, inl, inr, ℕ, zero, suc, ◌+◌, ◌≤◌, Bool, true, false, if◌then◌else◌, List, [], ◌∷◌, ◌++◌, length, reverse, append_assoc, append-nil, Option, Some, None, refl, sym, ap, subst, ◌∙◌, arith}
use Rattle.std.proofs.lemmas.List.{reverse-append}
use Rattle.std.proofs.lemmas.List.Sums.{sum_by-cons}
use Rattle.std.specs.Prelude.{Contains, count_by, not, Result, Ok, Err}
use Rattle.std.specs.List.{find}
use Rattle.std.specs.Option.{option_map_or}
use Rattle.mas_types.specs.declared.answers.Closing.{Closing}
use Rattle.mas_types.specs.declared.answers.Closing.TheVariants as closing
use Rattle.mas_types.specs.declared.commands.Command.{Command}
use Rattle.mas_types.specs.declared.commands.Command.TheVariants as command
use Rattle.mas_types.specs.declared.commands.Reply.{Reply}
use Rattle.mas_types.specs.declared.commands.Reply.TheVariants as reply
use Rattle.mas_types.specs.declared.ids.JobNo.{JobNo}
use Rattle.mas_types.specs.declared.ids.MemberId.{MemberId}
use Rattle.mas_types.specs.declared.ids.Name8.{Name8}
use Rattle.mas_types.specs.declared.ids.OutNo.{OutNo}
use Rattle.mas_types.specs.declared.jobs.Job.{Job}
use Rattle.mas_types.specs.declared.jobs.JobFields.{JobFields}
use Rattle.mas_types.specs.declared.jobs.OutSpec.{OutSpec}
use Rattle.mas_types.specs.declared.jobs.Output.{Output}
use Rattle.mas_types.specs.declared.journals.Entry.{Entry}
use Rattle.mas_types.specs.declared.queues.Queue.{Queue}
use Rattle.mas_types.specs.declared.units.Unit as units
use Rattle.mas_types.specs.declared.units.Unit.TheVariants as unit
use Rattle.mas_types.specs.Closings.{closing_line}
use Rattle.mas_types.specs.Commands.Wire.{got_on}
use Rattle.mas_types.specs.Owners.{groups_needed}
use Rattle.mas_types.specs.Queue.{job_at, output_at}
use Rattle.mas_types.specs.Run.{run}
use Rattle.mas_types.specs.Step.{step}
use Rattle.mas_types.specs.Units.{unit_of}
use Rattle.queue_laws.specs.Laws.{is_refusal}
use Rattle.queue_laws.proofs.Finds.{test_cases}
use Rattle.card_reader.specs.declared.decks.Refused.{Refused}
use Rattle.card_reader.specs.Decks.{read_as, text_of}
use Rattle.nje_frames.specs.declared.frames.Frame.{Frame}
use Rattle.nje_frames.specs.declared.frames.Frame.TheVariants as frame
use Rattle.nje_store.specs.declared.custody.Custody.{Custody}
use Rattle.nje_store.specs.declared.custody.Custody.TheVariants as custody
use Rattle.nje_store.specs.Custody.{custody_of}
use Rattle.job_outcome.specs.declared.outcomes.Outcome.{Outcome}
use Rattle.job_outcome.specs.declared.outcomes.Outcome.TheVariants as outcome
use Rattle.job_outcome.specs.declared.outcomes.Read.{Read}
use Rattle.job_outcome.specs.declared.outcomes.Read.TheVariants as read
use Rattle.job_outcome.specs.Meaning.{listed}
use Rattle.job_outcome.specs.Next.{end_by}
use Rattle.job_outcome.specs.Outcomes.{converted_as, outcome_of}
use Rattle.step_turns.specs.Decks.{after_begin, are_refused, finishing, job_opened, left_after, opening, takes}
use Rattle.step_turns.specs.Entries.{all_entries, closes, closing_reply, entry_of, given_in, is_drop, reply_in, reply_to}
use Rattle.step_turns.specs.JobEnds.{drop_groups, ending, groups_for_end, printed_end, taking}
use Rattle.step_turns.specs.Laws.{IsCaused, LinesAreCaused, frames_at, lines_of, units_done, units_left}
use Rattle.step_turns.specs.LineCounts.{got_before, sends_job, sent_before, sents_in}
use Rattle.step_turns.specs.Serving.{Arrival, Serves, acknowledged, arrived, begins, comes, counts_sent, exchange_end, exchanged, frame_for, heard, kept, opens, reads, serves, serves_first, stored, unless_cut, unread, with_frames}
use Rattle.step_turns.specs.States.{Acknowledge, Aside, Away, Deck, Exchange, Found, Fresh, Give, Holder, Line, Offer, PrintLines, Progress, ReadText, Rested, Service, SpoolArrival, SpoolDeck, SpoolOutputs, State, Task, Told, Work}
use Rattle.step_turns.specs.Turns.{Turn, Units, after_part, deck_ends, deck_opens, ends_with, goes_on, goes_on_by, groups_taken, is_spent, job_ends, last_part, lines_printed, next_unit, no_more, outputs_stand, prints_output, reads_job, text_read, turn, units_from}
use Rattle.step_turns.proofs.Cutting.{cut_entries}

-- THE LAST REPLY

-- one of the entries isn't of Drop
abbrev HasReply : List Entry → Type 0
HasReply es = (e : Entry) × (find closes (reverse es) ≡ Some e)

find_front : (xs ys : List Entry) (e : Entry) → find closes xs ≡ Some e → find closes (xs ++ ys) ≡ Some e
find_front [] ys e is = absurd (cc)
find_front (x ∷ xs) ys e is =
    test_cases (closes x) (find closes ((x ∷ xs) ++ ys) ≡ Some e)
    (λ t. let w : Some x ≡ Some e = rw t at is in rw t w)
    (λ t. let w : find closes xs ≡ Some e = rw t at is in rw t (find_front xs ys e w))

find_with : (xs : List Entry) (e : Entry) → closes e ≡ true → (x : Entry) × (find closes (xs ++ e ∷ []) ≡ Some x)
find_with [] e is = (e, rw is refl)
find_with (x ∷ xs) e is =
    test_cases (closes x) ((y : Entry) × (find closes ((x ∷ xs) ++ e ∷ []) ≡ Some y))
    (λ t. (x, rw t refl))
    (λ t. let more = find_with xs e is in (more.0, rw t more.1))

first_has : (e : Entry) (es : List Entry) → closes e ≡ true → HasReply (e ∷ es)
first_has e es is = let found = find_with (reverse es) e is in (found.0, ap (find closes) (reverse-append (e ∷ []) es) ∙ found.1)

-- commands of which the first isn't Drop give an entry that isn't of Drop
given_has : (Q : Queue) (by : MemberId) (at : ℕ) (c : Command) (cs : List Command) → is_drop c ≡ false → HasReply (given_in Q by at (c ∷ cs))
given_has Q by at c cs is = first_has (entry_of Q by at c) (given_in (step Q by c).0 by at cs) (rw is refl)

last_reply : (xs es : List Entry) → HasReply es → closing_reply (xs ++ es) ≡ closing_reply es
last_reply xs es has =
    ap (λ (fs : List Entry). reply_in (find closes fs)) (reverse-append xs es)
    ∙ ap reply_in (find_front (reverse es) (reverse xs) has.0 has.1 ∙ sym has.1)

-- WHAT A TEXT OR A PRINTER REFUSES

never_stops : (job : JobFields) (line : Option (List ℕ)) (end : Closing) → converted_as job line ≢ outcome.Stop end
never_stops job None end e = absurd (cc)
never_stops job (Some line) end e = absurd (cc)

module _ (h : Holder) (node : Name8) (from : State) (found : Found) where
  -- the units that the step may play
  abbrev most : ℕ
  most = units_done from + units_left from

  abbrev Refuses : Closing → Type 0
  Refuses end = IsCaused node from found [] end × (closing_line h.by h.step end ∷ [] ≡ lines_of h.by h.step end)

  stopped_by : (runs : Bool) (fields : JobFields) (r : Read) → found.read ≡ r → (end : Closing) → outcome_of runs fields r ≡ outcome.Stop end → Refuses end
  stopped_by true fields (read.Lines text) is end e = absurd (cc)
  stopped_by false fields (read.Lines text) is end e = absurd (never_stops fields (listed fields text) end e)
  stopped_by runs fields (read.Gone group) is end e = let same : closing.NoText group ≡ end = cc in subst Refuses same (is, refl)
  stopped_by runs fields (read.Lost volume) is end e = let same : closing.SpoolLost volume ≡ end = cc in subst Refuses same (inr is, refl)

  printed_by : (lost : Bool) (r : Read) → found.printer ≡ lost → found.read ≡ r → (end : Closing) → printed_end lost r ≡ Some end → Refuses end
  printed_by true (read.Lines text) printer is end e = let same : closing.PrinterLost ≡ end = cc in subst Refuses same (printer, refl)
  printed_by false (read.Lines text) printer is end e = absurd (cc)
  printed_by lost (read.Gone group) printer is end e = let same : closing.NoText group ≡ end = cc in subst Refuses same (is, refl)
  printed_by lost (read.Lost volume) printer is end e = let same : closing.SpoolLost volume ≡ end = cc in subst Refuses same (inr is, refl)

  -- A TURN, after these entries of its sitting

  abbrev Caused : List Entry → Turn → Type 0
  Caused so_far t = t.next ≡ Told → (end : Closing) × IsCaused node from found (so_far ++ all_entries t.parts) end × (t.lines ≡ lines_of h.by h.step end)

  caused_part : (so_far es : List Entry) (t : Turn) → Caused (so_far ++ es) t → Caused so_far (after_part es t)
  caused_part so_far es t caused told =
      let c = caused told in
      (c.0, subst (λ (fs : List Entry). IsCaused node from found fs c.0) (append_assoc so_far es (all_entries t.parts)) c.1, c.2)

  caused_no_more : (so_far : List Entry) (done : ℕ) → done ≤ most → Caused so_far (no_more h done)
  caused_no_more so_far done le told = (closing.DoneUnits done, le, refl)

  abbrev AreCaused : ℕ → Units → Type 0
  AreCaused left more = (Q : Queue) (given done : ℕ) (so_far : List Entry) → done + left ≤ most → Caused so_far (more Q given done)

  caused_on : (left : ℕ) (more : Units) → AreCaused left more → (Q : Queue) (given done : ℕ) (so_far : List Entry) → done + left ≤ most → Caused so_far (goes_on h left more Q given done)
  caused_on zero more are Q given done so_far le = are Q given done so_far le
  caused_on (suc left) more are Q given done so_far le =
      test_cases (is_spent h.grant h.hold given) (Caused so_far (goes_on h (suc left) more Q given done))
      (λ e. rw e (λ told. absurd (cc)))
      (λ e. rw e (are Q given done so_far le))

  caused_by : (r : Reply) (es : List Entry) → HasReply es → r ≡ closing_reply es → (left : ℕ) (more : Units) → AreCaused left more → (Q : Queue) (given done : ℕ) (so_far : List Entry) → done + suc left ≤ most
      → Caused (so_far ++ es) (goes_on_by h (end_by r) left more Q given done)
  caused_by (reply.No why) es has is left more are Q given done so_far le = λ told.
      (closing.Reply (reply.No why), inl (is ∙ sym (last_reply so_far es has) ∙ ap closing_reply (sym (append-nil (so_far ++ es)))), refl)
  caused_by reply.Plain es has is left more are Q given done so_far le = caused_on left more are Q given (done + 1) (so_far ++ es) (omega (arith, le))
  caused_by (reply.Job n) es has is left more are Q given done so_far le = caused_on left more are Q given (done + 1) (so_far ++ es) (omega (arith, le))
  caused_by (reply.Output n i) es has is left more are Q given done so_far le = caused_on left more are Q given (done + 1) (so_far ++ es) (omega (arith, le))
  caused_by (reply.Count n) es has is left more are Q given done so_far le = caused_on left more are Q given (done + 1) (so_far ++ es) (omega (arith, le))
  caused_by (reply.Shown lines) es has is left more are Q given done so_far le = caused_on left more are Q given (done + 1) (so_far ++ es) (omega (arith, le))

  caused_last : (es : List Entry) → HasReply es → (left : ℕ) (more : Units) → AreCaused left more → (Q : Queue) (given done : ℕ) (so_far : List Entry) → done + suc left ≤ most → Caused so_far (last_part h es left more Q given done)
  caused_last es has left more are Q given done so_far le =
      caused_part so_far es (goes_on_by h (end_by (closing_reply es)) left more (run Q es) (given + length es) done)
      (caused_by (closing_reply es) es has refl left more are (run Q es) (given + length es) done so_far le)

  -- UNITS

  caused_read : (runs : Bool) (left : ℕ) (Q : Queue) (done : ℕ) (so_far : List Entry) (job : Option Job) → done ≤ most → Caused so_far (option_map_or (reads_job h runs left done) job (no_more h done))
  caused_read runs left Q done so_far None le = caused_no_more so_far done le
  caused_read runs left Q done so_far (Some j) le = λ told. absurd (cc)

  caused_print : (left : ℕ) (Q : Queue) (done : ℕ) (so_far : List Entry) (output : Option Output) → done ≤ most → Caused so_far (option_map_or (prints_output h Q left done) output (no_more h done))
  caused_print left Q done so_far None le = caused_no_more so_far done le
  caused_print left Q done so_far (Some o) le = λ told. absurd (cc)

  caused_one : (c : Command) → is_drop c ≡ false → (left : ℕ) (more : Units) → AreCaused left more → (Q : Queue) (given done : ℕ) (so_far : List Entry) → done + suc left ≤ most
      → Caused so_far (last_part h (given_in Q h.by h.step (c ∷ [])) left more Q given done)
  caused_one c has left more are Q given done so_far le = caused_last (given_in Q h.by h.step (c ∷ [])) (given_has Q h.by h.step c [] has) left more are Q given done so_far le

  caused_next : (u : units.Unit) (left : ℕ) (more : Units) → AreCaused left more → (Q : Queue) (given done : ℕ) (so_far : List Entry) → done + suc left ≤ most → Caused so_far (next_unit h u left more Q given done)
  caused_next (unit.Print n i) left more are Q given done so_far le = caused_print left Q done so_far (output_at Q n i) (omega (arith, le))
  caused_next (unit.Finish n i) left more are Q given done so_far le = caused_one (command.Done n i) refl left more are Q given done so_far le
  caused_next unit.Pick left more are Q given done so_far le = caused_one command.Pick refl left more are Q given done so_far le
  caused_next unit.Purge left more are Q given done so_far le = caused_one command.Purge refl left more are Q given done so_far le
  caused_next unit.Gather left more are Q given done so_far le = caused_one command.Gather refl left more are Q given done so_far le
  caused_next (unit.Run n) left more are Q given done so_far le = caused_read true left Q done so_far (job_at Q n) (omega (arith, le))
  caused_next (unit.Convert n) left more are Q given done so_far le = caused_read false left Q done so_far (job_at Q n) (omega (arith, le))
  caused_next unit.TakeExec left more are Q given done so_far le = caused_one command.TakeExec refl left more are Q given done so_far le
  caused_next unit.TakeConvert left more are Q given done so_far le = caused_one command.TakeConvert refl left more are Q given done so_far le
  caused_next unit.Idle left more are Q given done so_far le = caused_no_more so_far done (omega (arith, le))

  caused_units : (left : ℕ) → AreCaused left (units_from h left)
  caused_units zero Q given done so_far le = caused_no_more so_far done (omega (arith, le))
  caused_units (suc left) Q given done so_far le = caused_next (unit_of Q h.by) left (units_from h left) (caused_units left) Q given done so_far le

  -- A UNIT UNDER WAY

  module _ (p : Progress) (le : p.done + suc p.left ≤ most) (Q : Queue) where
    caused_end : (es : List Entry) → HasReply es → Caused [] (ends_with h es p Q)
    caused_end es has = caused_last es has p.left (units_from h p.left) (caused_units p.left) Q 0 p.done [] le

    caused_ending : (n : JobNo) (specs : List OutSpec) → Caused [] (outputs_stand h None Q n specs p)
    caused_ending n specs =
        let c = command.Ended n specs in
        caused_end (given_in Q h.by h.step (ending Q h.by n specs)) (given_has Q h.by h.step c (if is_refusal (reply_to Q h.by c) then drop_groups ∷ [] else []) refl)

    caused_outputs : (lost : Option ℕ) → found.lost ≡ lost → (n : JobNo) (specs : List OutSpec) → Caused [] (outputs_stand h lost Q n specs p)
    caused_outputs None is n specs = caused_ending n specs
    caused_outputs (Some volume) is n specs = λ told. (closing.SpoolLost volume, inl is, refl)

    caused_taken : (refused : Bool) (needed : ℕ) (n : JobNo) (specs : List OutSpec) → Caused [] (groups_taken h refused (suc needed) Q n specs p)
    caused_taken true needed n specs =
        let c = command.Take (suc needed) in
        let more = option_map_or (λ (l : ℕ). takes needed (step Q h.by c).0 h.by l) (left_after (suc needed) (step Q h.by c).1) [] in
        let drop = if are_refused (suc needed) Q h.by (suc needed) then drop_groups ∷ [] else [] in
        caused_end (given_in Q h.by h.step (taking Q h.by (suc needed))) (given_has Q h.by h.step c (more ++ drop) refl)
    caused_taken false needed n specs = λ told. absurd (cc)

    caused_job : (needed : ℕ) (n : JobNo) (specs : List OutSpec) → Caused [] (job_ends h needed Q n specs p)
    caused_job zero n specs = caused_ending n specs
    caused_job (suc needed) n specs = caused_taken (are_refused (suc needed) Q h.by (suc needed)) needed n specs

    caused_text : (o : Outcome) → ((end : Closing) → o ≡ outcome.Stop end → Refuses end) → (n : JobNo) → Caused [] (text_read h o Q n p)
    caused_text outcome.Convert stops n = caused_end (given_in Q h.by h.step (command.Converted n ∷ [])) (given_has Q h.by h.step (command.Converted n) [] refl)
    caused_text (outcome.End specs) stops n = caused_job (groups_for_end Q n specs) n specs
    caused_text (outcome.Stop end) stops n = λ told. (let refused = stops end refl in (end, refused.0, refused.1))

    caused_printed : (o : Option Closing) → ((end : Closing) → o ≡ Some end → Refuses end) → (n : JobNo) (i : OutNo) (last : ℕ) → Caused [] (lines_printed h o Q n i last p)
    caused_printed None stops n i last = caused_end (given_in Q h.by h.step (command.Mark n i last ∷ [])) (given_has Q h.by h.step (command.Mark n i last) [] refl)
    caused_printed (Some end) stops n i last = λ told. (let refused = stops end refl in (end, refused.0, refused.1))

  -- DECKS

  caused_deck : (job : Option JobNo) (es : List Entry) (text : List (List ℕ)) → Caused [] (deck_opens h job es text)
  caused_deck (Some n) es text = λ told. absurd (cc)
  caused_deck None es text = λ told. (closing.Reply (closing_reply es), inl (ap closing_reply (sym (append-nil es))), refl)

  caused_entry : (lost : Option ℕ) → found.lost ≡ lost → (es : List Entry) → Caused [] (deck_ends h lost es)
  caused_entry None is es = λ told. (closing.Reply (closing_reply es), inl (ap closing_reply (sym (append-nil es))), refl)
  caused_entry (Some volume) is es = λ told. (closing.SpoolLost volume, inl is, refl)

-- ON A LINE

pub count_one : (p : Entry → Bool) (e : Entry) (es : List Entry) → count_by p (e ∷ es) ≡ (if p e then 1 else 0) + count_by p es
count_one p e es = sum_by-cons (λ y. if p y then 1 else 0) e es

pub count_append : (p : Entry → Bool) (es fs : List Entry) → count_by p (es ++ fs) ≡ count_by p es + count_by p fs
count_append p [] fs = omega arith
count_append p (e ∷ es) fs =
    let here = count_one p e (es ++ fs) in
    let apart = count_one p e es in
    let more = count_append p es fs in
    omega (arith, here, apart, more)

pub sent_or_not : (refused : Bool) → ◌≡◌ {A = ℕ} (if not refused then 1 else 0) (if refused then 0 else 1)
sent_or_not true = refl
sent_or_not false = refl

-- one Sent more
sents_then : (Q : Queue) (by : MemberId) (at l number : ℕ) (so_far : List Entry) (s : Service) (before : ℕ) → s.sent ≡ before + sents_in so_far
    → (counts_sent (reply_to Q by (command.Sent l number)) s).sent ≡ before + sents_in (so_far ++ given_in Q by at (command.Sent l number ∷ []))
sents_then Q by at l number so_far s before is =
    let c = command.Sent l number in
    let e = entry_of Q by at c in
    let both = count_append sends_job so_far (e ∷ []) in
    let one = count_one sends_job e [] in
    let none : sents_in [] ≡ 0 = refl in
    let same : ◌≡◌ {A = ℕ} (if sends_job e then 1 else 0) (if is_refusal (reply_to Q by c) then 0 else 1) = sent_or_not (is_refusal (reply_to Q by c)) in
    omega (arith, both, one, none, same, is)

no_sent : (n : ℕ) → n ≡ n + sents_in []
no_sent n = let none : sents_in [] ≡ 0 = refl in omega (arith, none)

contains_first : {A : Type 0} (x : A) (xs : List A) → Contains (x ∷ xs) x
contains_first x xs = (0, omega arith, refl)

contains_later : {A : Type 0} (y : A) (xs : List A) (x : A) → Contains xs x → Contains (y ∷ xs) x
contains_later y xs x c = let k : ℕ = c.0 in let lt = c.1 in (suc k, omega (arith, lt), c.2)

-- what closes a step before it has handled a frame
cut_off : (h : Holder) (node : Name8) (l : ℕ) (offer : Option Offer) (found : Found) (r : Read) (lost : Bool) (o : Option Closing) → found.read ≡ r → found.wire ≡ lost → unread offer r ≡ o
    → (end : Closing) → unless_cut l lost o ≡ Some end → Refuses h node (Away (Exchange l offer)) found end
cut_off h node l None found r true None is wire not_read end e = let same : closing.LineLost l ≡ end = cc in subst (Refuses h node (Away (Exchange l None)) found) same ((wire, refl), refl)
cut_off h node l None found r false None is wire not_read end e = absurd (cc)
cut_off h node l None found r lost (Some x) is wire not_read end e = absurd (cc)
cut_off h node l (Some o) found (read.Lines text) true None is wire not_read end e = let same : closing.LineLost l ≡ end = cc in subst (Refuses h node (Away (Exchange l (Some o))) found) same ((wire, refl), refl)
cut_off h node l (Some o) found (read.Lines text) false None is wire not_read end e = absurd (cc)
cut_off h node l (Some o) found (read.Lines text) lost (Some x) is wire not_read end e = absurd (cc)
cut_off h node l (Some o) found (read.Gone group) lost None is wire not_read end e = absurd (cc)
cut_off h node l (Some o) found (read.Gone group) lost (Some x) is wire not_read end e = let same : closing.NoText group ≡ end = cc in subst (Refuses h node (Away (Exchange l (Some o))) found) same (is, refl)
cut_off h node l (Some o) found (read.Lost volume) lost None is wire not_read end e = absurd (cc)
cut_off h node l (Some o) found (read.Lost volume) lost (Some x) is wire not_read end e = let same : closing.SpoolLost volume ≡ end = cc in subst (Refuses h node (Away (Exchange l (Some o))) found) same (inr is, refl)

module _ (h : Holder) (node : Name8) (from : State) (found : Found) where
  -- where frames are served after these entries of the sitting, of which so many commands were given
  pub record IsServed (fs : List Frame) (s : Service) (Q : Queue) (given : ℕ) (so_far : List Entry) : Type 0 where
    pub sent : s.sent ≡ sent_before from + sents_in so_far
    pub got : s.got ≡ got_before from
    pub known : (f : Frame) → Contains fs f → Contains (frames_at from found) f
    pub own : given ≡ 0 → Q.config.node ≡ node

  caused_opens : (job : Option JobNo) (Q : Queue) (c : Command) (cs : List Command) (a : Arrival) (s : Service) (so_far : List Entry) → is_drop c ≡ false → Caused h node from found so_far (opens h.by h.step job (given_in Q h.by h.step (c ∷ cs)) a s)
  caused_opens (Some n) Q c cs a s so_far first = λ told. absurd (cc)
  caused_opens None Q c cs a s so_far first = λ told.
      (let es = given_in Q h.by h.step (c ∷ cs) in
      (closing.Reply (closing_reply es), inl (sym (last_reply so_far es (given_has Q h.by h.step c cs first)) ∙ ap (λ (fs : List Entry). closing_reply (so_far ++ fs)) (sym (append-nil es))), refl))

  caused_reads : (r : Result JobFields Refused) (a : Arrival) (s : Service) (Q : Queue) (so_far : List Entry) → read_as Q.config.node a.text ≡ r → Q.config.node ≡ node → Contains (frames_at from found) (frame_for a)
      → Caused h node from found so_far (reads h.by h.step r a s Q)
  caused_reads (Err bad) a s Q so_far is own came = λ told.
      (closing.BadCard bad.card bad.cause, record { arrival = a; came = came; refused = ap (λ (n : Name8). read_as n a.text) (sym own) ∙ is }, refl)
  caused_reads (Ok fields) a s Q so_far is own came =
      let groups = groups_needed (text_of a.text) in
      let c = command.Begin (arrived a fields) in
      caused_opens (job_opened Q h.by (arrived a fields) groups) Q c (after_begin (step Q h.by c).0 h.by groups (step Q h.by c).1) a s so_far refl

  caused_begins : (given : ℕ) (a : Arrival) (s : Service) (Q : Queue) (so_far : List Entry) → (given ≡ 0 → Q.config.node ≡ node) → Contains (frames_at from found) (frame_for a) → Caused h node from found so_far (begins h.by h.step given a s Q)
  caused_begins zero a s Q so_far own came = caused_reads (read_as Q.config.node a.text) a s Q so_far refl (own refl) came
  caused_begins (suc given) a s Q so_far own came = λ told. absurd (cc)

  caused_comes : (c : Custody) (a : Arrival) (more : Serves) (s : Service) (Q : Queue) (given : ℕ) (so_far : List Entry) → (given ≡ 0 → Q.config.node ≡ node) → Contains (frames_at from found) (frame_for a)
      → Caused h node from found so_far (more s Q given) → Caused h node from found so_far (comes h.by h.step c a more s Q given)
  caused_comes custody.Next a more s Q given so_far own came rest = caused_begins given a s Q so_far own came
  caused_comes (custody.Again k) a more s Q given so_far own came rest = λ told. absurd (cc)
  caused_comes (custody.Gap k count) a more s Q given so_far own came rest = rest

  caused_serves : (fs : List Frame) (s : Service) (Q : Queue) (given : ℕ) (so_far : List Entry) → IsServed fs s Q given so_far → Caused h node from found so_far (serves h.by h.step fs s Q given)
  caused_serves [] s Q given so_far is = λ told.
      (closing.Line s.sent s.got, (is.sent ∙ ap (λ (es : List Entry). sent_before from + sents_in es) (sym (append-nil so_far)), is.got), refl)
  caused_serves (frame.Ack number ∷ fs) s Q given so_far is =
      let c = command.Sent s.line number in
      let es = given_in Q h.by h.step (c ∷ []) in
      let v = counts_sent (reply_to Q h.by c) (with_frames fs s) in
      caused_part h node from found so_far es (serves h.by h.step fs v (run Q es) (suc given))
      (caused_serves fs v (run Q es) (suc given) (so_far ++ es) (record {
        sent = sents_then Q h.by h.step s.line number so_far (with_frames fs s) (sent_before from) is.sent;
        got = is.got;
        known = λ f c. is.known f (contains_later (frame.Ack number) fs f c);
        own = λ none. absurd (cc);
      }))
  caused_serves (frame.Job number origin node' text ∷ fs) s Q given so_far is =
      let a : Arrival = record { number = number; origin = origin; node = node'; text = text } in
      caused_comes (custody_of (got_on Q s.line) number) a (serves h.by h.step fs) (with_frames fs s) Q given so_far is.own (is.known (frame_for a) (contains_first (frame_for a) fs))
      (caused_serves fs (with_frames fs s) Q given so_far (record { sent = is.sent; got = is.got; known = λ f c. is.known f (contains_later (frame_for a) fs f c); own = is.own }))

module _ (h : Holder) (Q : Queue) (found : Found) where
  caused_exchange : (l : ℕ) (offer : Option Offer) (end : Option Closing) → ((x : Closing) → end ≡ Some x → Refuses h Q.config.node (Away (Exchange l offer)) found x)
      → Caused h Q.config.node (Away (Exchange l offer)) found [] (exchanged h.by h.step end l (heard found) Q)
  caused_exchange l offer (Some end) stops = λ told. (let refused = stops end refl in (end, refused.0, refused.1))
  caused_exchange l offer None stops =
      caused_serves h Q.config.node (Away (Exchange l offer)) found (heard found) (serves_first l) Q 0 [] (record { sent = refl; got = refl; known = λ f c. c; own = λ none. refl })

  caused_kept : (refused : Bool) (l number : ℕ) (n : JobNo) (text : List (List ℕ)) (s : Service) → Caused h Q.config.node (Away (SpoolArrival number n text s)) found [] (kept h.by h.step refused (command.Got l number n text) number n s Q)
  caused_kept true l number n text s = λ told. (closing.Reply (reply_to Q h.by (command.Got l number n text)), inl refl, refl)
  caused_kept false l number n text s = λ told. absurd (cc)

  caused_stored : (lost : Option ℕ) → found.lost ≡ lost → (number : ℕ) (n : JobNo) (text : List (List ℕ)) (s : Service) → Caused h Q.config.node (Away (SpoolArrival number n text s)) found [] (stored h.by h.step lost number n text s Q)
  caused_stored None is number n text s = caused_kept (is_refusal (reply_to Q h.by (command.Got s.line number n text))) s.line number n text s
  caused_stored (Some volume) is number n text s = λ told. (closing.SpoolLost volume, inl is, refl)

  caused_acknowledged : (number : Option ℕ) (lost : Bool) → found.wire ≡ lost → (s : Service) → Caused h Q.config.node (Away (Acknowledge number s)) found [] (acknowledged h.by h.step number lost s Q)
  caused_acknowledged None lost is s = caused_serves h Q.config.node (Away (Acknowledge None s)) found s.frames s Q 0 [] (record { sent = no_sent s.sent; got = refl; known = λ f c. c; own = λ none. refl })
  caused_acknowledged (Some k) true is s = λ told. (closing.LineLost s.line, (is, refl), refl)
  caused_acknowledged (Some k) false is s = caused_serves h Q.config.node (Away (Acknowledge (Some k) s)) found s.frames s Q 0 [] (record { sent = no_sent s.sent; got = refl; known = λ f c. c; own = λ none. refl })

-- FROM EACH STATE

module _ (h : Holder) (Q : Queue) (found : Found) where
  abbrev CausedFrom : State → Type 0
  CausedFrom s = Caused h Q.config.node s found [] (turn h Q s found)

  caused_task : (task : Task) → CausedFrom (Fresh task)
  caused_task (Give c) = λ told. (closing.Reply (reply_to Q h.by c), inr (entry_of Q h.by h.step c, refl, refl), refl)
  caused_task (Deck fields text) = caused_deck h Q.config.node (Fresh (Deck fields text)) found (job_opened Q h.by fields (groups_needed text)) (given_in Q h.by h.step (opening Q h.by fields (groups_needed text))) text
  caused_task (Work n) = caused_units h Q.config.node (Fresh (Work n)) found n Q 0 0 [] (omega arith)
  caused_task (Line l) = λ told. absurd (cc)

  caused_aside : (a : Aside) → CausedFrom (Away a)
  caused_aside (SpoolDeck n text) = caused_entry h Q.config.node (Away (SpoolDeck n text)) found found.lost refl (given_in Q h.by h.step (finishing found.lost n text ∷ []))
  caused_aside (ReadText runs n fields p) =
      caused_text h Q.config.node (Away (ReadText runs n fields p)) found p (omega arith) Q (outcome_of runs fields found.read) (stopped_by h Q.config.node (Away (ReadText runs n fields p)) found runs fields found.read refl) n
  caused_aside (SpoolOutputs n specs p) = caused_outputs h Q.config.node (Away (SpoolOutputs n specs p)) found p (omega arith) Q found.lost refl n specs
  caused_aside (PrintLines n i last p) =
      caused_printed h Q.config.node (Away (PrintLines n i last p)) found p (omega arith) Q (printed_end found.printer found.read) (printed_by h Q.config.node (Away (PrintLines n i last p)) found found.printer found.read refl refl) n i last
  caused_aside (Exchange l offer) = caused_exchange h Q found l offer (exchange_end offer l found) (cut_off h Q.config.node l offer found found.read found.wire (unread offer found.read) refl refl refl)
  caused_aside (SpoolArrival number n text s) = caused_stored h Q found found.lost refl number n text s
  caused_aside (Acknowledge number s) = caused_acknowledged h Q found number found.wire refl s

  caused_turn : (s : State) → s ≢ Told → CausedFrom s
  caused_turn (Fresh task) ne = caused_task task
  caused_turn (Away aside) ne = caused_aside aside
  caused_turn (Rested p) ne = caused_units h Q.config.node (Rested p) found p.left Q 0 p.done [] (omega arith)
  caused_turn Told ne = absurd (ne refl)

pub lines_are_caused : LinesAreCaused
lines_are_caused Q h s found ne told =
    let c = caused_turn h Q found s ne told in
    (c.0, subst (λ (es : List Entry). IsCaused Q.config.node s found es c.0) (sym (cut_entries [] (turn h Q s found).parts)) c.1, c.2)
