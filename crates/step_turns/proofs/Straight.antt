-- The sittings of a step that serves a line give what it gives read straight.
use Rattle.std.proofs.Common.{◌≡◌, ℕ, zero, suc, ◌+◌, ◌*◌, ◌≤◌, Bool, true, false, List, [], ◌∷◌, ◌++◌, length, append_assoc, append-nil, Option, Some, None, Result, Ok, Err, refl, ap, ◌∙◌, arith}
use Rattle.mas_types.specs.declared.answers.Closing.{Closing}
use Rattle.mas_types.specs.declared.answers.Closing.TheVariants as closing
use Rattle.mas_types.specs.declared.commands.Command.{Command}
use Rattle.mas_types.specs.declared.commands.Command.TheVariants as command
use Rattle.mas_types.specs.declared.ids.JobNo.{JobNo}
use Rattle.mas_types.specs.declared.ids.MemberId.{MemberId}
use Rattle.mas_types.specs.declared.jobs.JobFields.{JobFields}
use Rattle.mas_types.specs.declared.journals.Entry.{Entry}
use Rattle.mas_types.specs.declared.queues.Queue.{Queue}
use Rattle.mas_types.specs.Closings.{closing_line, reply_lines}
use Rattle.mas_types.specs.Commands.Wire.{got_on}
use Rattle.mas_types.specs.Owners.{groups_needed}
use Rattle.mas_types.specs.Run.{run}
use Rattle.queue_laws.specs.Laws.{is_refusal}
use Rattle.card_reader.specs.declared.decks.Refused.{Refused}
use Rattle.card_reader.specs.Decks.{read_as, text_of}
use Rattle.nje_frames.specs.declared.frames.Frame.{Frame}
use Rattle.nje_frames.specs.declared.frames.Frame.TheVariants as frame
use Rattle.nje_frames.specs.Grammar.{frame_text}
use Rattle.nje_store.specs.declared.custody.Custody.{Custody}
use Rattle.nje_store.specs.declared.custody.Custody.TheVariants as custody
use Rattle.nje_store.specs.Custody.{custody_of}
use Rattle.step_turns.specs.Courses.{Finds, hold_then, holder_then}
use Rattle.step_turns.specs.Decks.{job_opened, opening}
use Rattle.step_turns.specs.Entries.{all_entries, closing_reply, given_in, reply_to}
use Rattle.step_turns.specs.LineWhole.{LineIsReadStraight, LosesNothing, Whole, came, closes_so, exchanged_so, frames_so, given_by_sittings, got_so, got_with_text, line_so, opened_so, read_so, sat_then, with_bytes, with_entries}
use Rattle.step_turns.specs.Serving.{Arrival, acknowledged, arrived, begins, bytes_given, comes, counts_got, counts_sent, exchanged, frame_for, heard, kept, offered, opens, reads, serves, serves_first, stored, taken_most, unless_cut, unread, with_frames}
use Rattle.step_turns.specs.States.{Acknowledge, Aside, Away, Exchange, Found, Fresh, Grant, Holder, Line, Service, SpoolArrival, State, Told}
use Rattle.step_turns.specs.TurnParts.{Turn, after_part, leaves, says}
use Rattle.step_turns.specs.Turns.{turn}
use Rattle.step_turns.proofs.Cutting.{cut_entries}
use Rattle.step_turns.proofs.Given.{run_append}
use Rattle.step_turns.proofs.Served.{take_few}

module _ (finds : Finds) (by : MemberId) (at : ℕ) where
  -- this member in this step, with a hold and a grant
  abbrev holds : ℕ → Grant → Holder
  holds hold grant = record { by = by; step = at; hold = hold; grant = grant }

  abbrev later : ℕ → Holder → Queue → State → Whole
  later n h Q s = given_by_sittings n finds Q h s

  -- what a sitting under way gives, and those after it
  abbrev finish : ℕ → Holder → Queue → Turn → Whole
  finish n h Q t =
      let R = run Q (all_entries t.parts) in
      sat_then (all_entries t.parts) (bytes_given t.next (finds R t.next).read) t.lines (later n h R t.next)

  told_none : (n : ℕ) (h : Holder) (Q : Queue) → later n h Q Told ≡ closes_so []
  told_none zero h Q = refl
  told_none (suc n) h Q = ap (sat_then [] [] []) (told_none n (holder_then Q h []) Q)

  one_sitting : (n hold : ℕ) (grant : Grant) (Q : Queue) (s : State)
      → later (suc n) (holds hold grant) Q s ≡ finish n (holds (hold_then grant Q.config.hold hold (length (all_entries (turn (holds hold grant) Q s (finds Q s)).parts))) grant) Q (turn (holds hold grant) Q s (finds Q s))
  one_sitting n hold grant Q s =
      let t = turn (holds hold grant) Q s (finds Q s) in
      ap
      (λ (es : List Entry). sat_then es (bytes_given t.next (finds (run Q es) t.next).read) t.lines (later n (holds (hold_then grant Q.config.hold hold (length es)) grant) (run Q es) t.next))
      (cut_entries [] t.parts)

  -- HOW A SITTING UNDER WAY ENDS

  finish_says : (n : ℕ) (h : Holder) (Q : Queue) (lines : List (List ℕ)) → finish n h Q (says lines) ≡ closes_so lines
  finish_says n h Q lines = ap (sat_then [] [] lines) (told_none n h Q) ∙ ap closes_so (append-nil lines)

  finish_part : (n : ℕ) (h : Holder) (Q : Queue) (es : List Entry) (t : Turn) → finish n h Q (after_part es t) ≡ with_entries es (finish n h (run Q es) t)
  finish_part n h Q es t =
      let ps = all_entries t.parts in
      ap (λ (R : Queue). sat_then (es ++ ps) (bytes_given t.next (finds R t.next).read) t.lines (later n h R t.next)) (run_append Q es ps)
      ∙ ap
      (λ (fs : List Entry). let R = run (run Q es) ps in let w : Whole = record { entries = fs; given = bytes_given t.next (finds R t.next).read ++ (later n h R t.next).given; lines = t.lines ++ (later n h R t.next).lines } in w)
      (append_assoc es ps (later n h (run (run Q es) ps) t.next).entries)

  finish_waits : (n : ℕ) (h : Holder) (Q : Queue) (a : Aside) (bytes : List ℕ) (w : Whole) → bytes_given (Away a) (finds Q (Away a)).read ≡ bytes → later n h Q (Away a) ≡ w → finish n h Q (leaves (Away a)) ≡ with_bytes bytes w
  finish_waits n h Q a bytes w given is =
      ap (λ (bs : List ℕ). sat_then [] bs [] (later n h Q (Away a))) given ∙ ap (sat_then [] bytes []) is

  -- FROM STATES THAT MAY HAVE SO MANY SITTINGS

  abbrev AckStraight : ℕ → Type 0
  AckStraight n = (number : Option ℕ) (s : Service) (hold : ℕ) (grant : Grant) (Q : Queue) → 2 * length s.frames + 1 ≤ n
      → later n (holds hold grant) Q (Away (Acknowledge number s)) ≡ frames_so by at s.frames s Q

  abbrev ArrivalStraight : ℕ → Type 0
  ArrivalStraight n = (number : ℕ) (j : JobNo) (text : List (List ℕ)) (s : Service) (hold : ℕ) (grant : Grant) (Q : Queue) → 2 * length s.frames + 2 ≤ n
      → later n (holds hold grant) Q (Away (SpoolArrival number j text s)) ≡ got_with_text by at number j text (frames_so by at s.frames) s Q

  module _ (n : ℕ) (acks : AckStraight n) (arrivals : ArrivalStraight n) (hold : ℕ) (grant : Grant) where
    abbrev h : Holder
    h = holds hold grant

    straight_opens : (job : Option JobNo) (es : List Entry) (a : Arrival) (s : Service) (Q : Queue) → 2 * length s.frames + 2 ≤ n
        → finish n h Q (opens by at job es a s) ≡ opened_so by at job es a (frames_so by at s.frames) s Q
    straight_opens (Some j) es a s Q enough =
        let x = SpoolArrival a.number j (text_of a.text) s in
        finish_part n h Q es (leaves (Away x))
        ∙ ap (with_entries es) (finish_waits n h (run Q es) x [] (got_with_text by at a.number j (text_of a.text) (frames_so by at s.frames) s (run Q es)) refl (arrivals a.number j (text_of a.text) s hold grant (run Q es) enough))
    straight_opens None es a s Q enough =
        let lines = reply_lines by at (closing_reply es) in
        finish_part n h Q es (says lines) ∙ ap (with_entries es) (finish_says n h (run Q es) lines)

    straight_reads : (r : Result JobFields Refused) (a : Arrival) (s : Service) (Q : Queue) → 2 * length s.frames + 2 ≤ n
        → finish n h Q (reads by at r a s Q) ≡ read_so by at r a (frames_so by at s.frames) s Q
    straight_reads (Err bad) a s Q enough = finish_says n h Q (closing_line by at (closing.BadCard bad.card bad.cause) ∷ [])
    straight_reads (Ok fields) a s Q enough =
        let groups = groups_needed (text_of a.text) in
        straight_opens (job_opened Q by (arrived a fields) groups) (given_in Q by at (opening Q by (arrived a fields) groups)) a s Q enough

    straight_begins : (given : ℕ) (a : Arrival) (s : Service) (Q : Queue) → custody_of (got_on Q s.line) a.number ≡ custody.Next → 2 * length s.frames + 2 ≤ n → (1 ≤ given → 2 * length s.frames + 3 ≤ n)
        → finish n h Q (begins by at given a s Q) ≡ came by at custody.Next a (frames_so by at s.frames) s Q
    straight_begins zero a s Q is enough paused = straight_reads (read_as Q.config.node a.text) a s Q enough
    straight_begins (suc given) a s Q is enough paused =
        let v = with_frames (frame_for a ∷ s.frames) s in
        let room = paused (omega arith) in
        finish_waits n h Q (Acknowledge None v) [] (frames_so by at (frame_for a ∷ s.frames) v Q) refl (acks None v hold grant Q (omega (arith, room)))
        ∙ ap (λ (c : Custody). came by at c a (frames_so by at s.frames) s Q) is

    straight_comes : (c : Custody) (a : Arrival) (s : Service) (Q : Queue) (given : ℕ) → custody_of (got_on Q s.line) a.number ≡ c → 2 * length s.frames + 2 ≤ n → (1 ≤ given → 2 * length s.frames + 3 ≤ n)
        → finish n h Q (serves by at s.frames s Q given) ≡ frames_so by at s.frames s Q
        → finish n h Q (comes by at c a (serves by at s.frames) s Q given) ≡ came by at c a (frames_so by at s.frames) s Q
    straight_comes custody.Next a s Q given is enough paused rest = straight_begins given a s Q is enough paused
    straight_comes (custody.Again k) a s Q given is enough paused rest =
        finish_waits n h Q (Acknowledge (Some k) s) (frame_text (frame.Ack k)) (frames_so by at s.frames s Q) refl (acks (Some k) s hold grant Q (omega (arith, enough)))
    straight_comes (custody.Gap k count) a s Q given is enough paused rest = rest

    straight_serves : (fs : List Frame) (s : Service) (Q : Queue) (given : ℕ) → 2 * length fs ≤ n → (1 ≤ given → 2 * length fs + 1 ≤ n)
        → finish n h Q (serves by at fs s Q given) ≡ frames_so by at fs s Q
    straight_serves [] s Q given enough paused = finish_says n h Q (closing_line by at (closing.Line s.sent s.got) ∷ [])
    straight_serves (frame.Ack number ∷ fs) s Q given enough paused =
        let c = command.Sent s.line number in
        let es = given_in Q by at (c ∷ []) in
        let v = counts_sent (reply_to Q by c) (with_frames fs s) in
        finish_part n h Q es (serves by at fs v (run Q es) (suc given))
        ∙ ap (with_entries es) (straight_serves fs v (run Q es) (suc given) (omega (arith, enough)) (λ some. omega (arith, enough)))
    straight_serves (frame.Job number origin node text ∷ fs) s Q given enough paused =
        let a : Arrival = record { number = number; origin = origin; node = node; text = text } in
        straight_comes (custody_of (got_on Q s.line) number) a (with_frames fs s) Q given refl (omega (arith, enough)) (λ some. let room = paused some in omega (arith, room))
        (straight_serves fs (with_frames fs s) Q given (omega (arith, enough)) (λ some. omega (arith, enough)))

    straight_acknowledged : (number : Option ℕ) (lost : Bool) (s : Service) (Q : Queue) → lost ≡ false → 2 * length s.frames ≤ n
        → finish n h Q (acknowledged by at number lost s Q) ≡ frames_so by at s.frames s Q
    straight_acknowledged None lost s Q none enough = straight_serves s.frames s Q 0 enough (λ some. absurd (omega (arith, some)))
    straight_acknowledged (Some k) true s Q none enough = absurd (cc)
    straight_acknowledged (Some k) false s Q none enough = straight_serves s.frames s Q 0 enough (λ some. absurd (omega (arith, some)))

    straight_kept : (refused : Bool) (c : Command) (j : JobNo) (number : ℕ) (s : Service) (Q : Queue) → 2 * length s.frames + 1 ≤ n
        → finish n h Q (kept by at refused c number j s Q) ≡ got_so by at refused c j number (frames_so by at s.frames) s Q
    straight_kept true c j number s Q enough =
        let es = given_in Q by at (c ∷ command.Drop j ∷ []) in
        let lines = reply_lines by at (reply_to Q by c) in
        finish_part n h Q es (says lines) ∙ ap (with_entries es) (finish_says n h (run Q es) lines)
    straight_kept false c j number s Q enough =
        let es = given_in Q by at (c ∷ []) in
        let x = Acknowledge (Some number) (counts_got s) in
        finish_part n h Q es (leaves (Away x))
        ∙ ap (with_entries es) (finish_waits n h (run Q es) x (frame_text (frame.Ack number)) (frames_so by at s.frames (counts_got s) (run Q es)) refl (acks (Some number) (counts_got s) hold grant (run Q es) enough))

    straight_stored : (lost : Option ℕ) (number : ℕ) (j : JobNo) (text : List (List ℕ)) (s : Service) (Q : Queue) → lost ≡ None → 2 * length s.frames + 1 ≤ n
        → finish n h Q (stored by at lost number j text s Q) ≡ got_with_text by at number j text (frames_so by at s.frames) s Q
    straight_stored None number j text s Q none enough =
        let c = command.Got s.line number j text in
        straight_kept (is_refusal (reply_to Q by c)) c j number s Q enough
    straight_stored (Some volume) number j text s Q none enough = absurd (cc)

    straight_exchanged : (end : Option Closing) (l : ℕ) (found : Found) (Q : Queue) → 2 * taken_most ≤ n
        → finish n h Q (exchanged by at end l (heard found) Q) ≡ exchanged_so by at end found (serves_first l) Q
    straight_exchanged (Some end) l found Q enough = finish_says n h Q (closing_line by at end ∷ [])
    straight_exchanged None l found Q enough =
        let few : length (heard found) ≤ taken_most = take_few taken_most found.frames in
        straight_serves (heard found) (serves_first l) Q 0 (omega (arith, few, enough)) (λ some. absurd (omega (arith, some)))

  module _ (calm : LosesNothing finds) where
    both_straight : (n : ℕ) → AckStraight n × ArrivalStraight n
    both_straight zero = (λ number s hold grant Q enough. absurd (omega (arith, enough)), λ number j text s hold grant Q enough. absurd (omega (arith, enough)))
    both_straight (suc n) =
        let ih = both_straight n in (
          λ number s hold grant Q enough.
              one_sitting n hold grant Q (Away (Acknowledge number s))
              ∙ straight_acknowledged n ih.0 ih.1 _ grant number (finds Q (Away (Acknowledge number s))).wire s Q (calm.answer Q number s) (omega (arith, enough)),
          λ number j text s hold grant Q enough.
              one_sitting n hold grant Q (Away (SpoolArrival number j text s))
              ∙ straight_stored n ih.0 ih.1 _ grant (finds Q (Away (SpoolArrival number j text s))).lost number j text s Q (calm.arrival Q number j text s) (omega (arith, enough)),
        )

    uncut : (l : ℕ) (lost : Bool) (o : Option Closing) → lost ≡ false → unless_cut l lost o ≡ o
    uncut l lost (Some end) none = refl
    uncut l true None none = absurd (cc)
    uncut l false None none = refl

    straight_line : (m : ℕ) → 2 * taken_most ≤ m → (l hold : ℕ) (grant : Grant) (Q : Queue) → later (suc (suc m)) (holds hold grant) Q (Fresh (Line l)) ≡ line_so by at Q l finds
    straight_line m enough l hold grant Q =
        let es = given_in Q by at (command.Load l ∷ []) in
        let R = run Q es in
        let offer = offered R l (reply_to Q by (command.Load l)) in
        let a = Exchange l offer in
        let found = finds R (Away a) in
        let ih = both_straight m in
        let first = hold_then grant Q.config.hold hold 1 in
        let next = hold_then grant R.config.hold first (length (all_entries (turn (holds first grant) R (Away a) found).parts)) in
        let waits : later (suc m) (holds first grant) R (Away a) ≡ exchanged_so by at (unread offer found.read) found (serves_first l) R =
        one_sitting m first grant R (Away a)
        ∙ ap (λ (end : Option Closing). finish m (holds next grant) R (exchanged by at end l (heard found) R)) (uncut l found.wire (unread offer found.read) (calm.exchange R l offer))
        ∙ straight_exchanged m ih.0 ih.1 next grant (unread offer found.read) l found R enough in
        one_sitting (suc m) hold grant Q (Fresh (Line l))
        ∙ finish_part (suc m) (holds first grant) Q es (leaves (Away a))
        ∙ ap (with_entries es) (finish_waits (suc m) (holds first grant) R a (bytes_given (Away a) found.read) (exchanged_so by at (unread offer found.read) found (serves_first l) R) refl waits)

pub line_is_read_straight : LineIsReadStraight
line_is_read_straight finds Q h l calm = straight_line finds h.by h.step calm (2 * taken_most) (omega arith) l h.hold h.grant Q
