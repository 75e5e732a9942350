-- A step that serves a line, read straight: over a queue that nobody else changes, where no volume and no line is lost.
-- It loads a job, gives its frame, takes the frames that wait, and handles each before the next.
use Rattle.std.specs.Prelude.{◌≡◌, ℕ, zero, suc, Bool, true, false, List, [], ◌∷◌, ◌++◌, Option, Some, None, Result, Ok, Err}
use Rattle.mas_types.specs.declared.answers.Closing.{Closing}
use Rattle.mas_types.specs.declared.answers.Closing.TheVariants as closing
use Rattle.mas_types.specs.declared.commands.Command.{Command}
use Rattle.mas_types.specs.declared.commands.Command.TheVariants as command
use Rattle.mas_types.specs.declared.ids.JobNo.{JobNo}
use Rattle.mas_types.specs.declared.ids.MemberId.{MemberId}
use Rattle.mas_types.specs.declared.jobs.JobFields.{JobFields}
use Rattle.mas_types.specs.declared.journals.Entry.{Entry}
use Rattle.mas_types.specs.declared.queues.Queue.{Queue}
use Rattle.mas_types.specs.Closings.{closing_line, reply_lines}
use Rattle.mas_types.specs.Commands.Wire.{got_on}
use Rattle.mas_types.specs.Owners.{groups_needed}
use Rattle.mas_types.specs.Run.{run}
use Rattle.queue_laws.specs.Laws.{is_refusal}
use Rattle.card_reader.specs.declared.decks.Refused.{Refused}
use Rattle.card_reader.specs.Decks.{read_as, text_of}
use Rattle.nje_frames.specs.declared.frames.Frame.{Frame}
use Rattle.nje_frames.specs.declared.frames.Frame.TheVariants as frame
use Rattle.nje_frames.specs.Grammar.{frame_text}
use Rattle.nje_store.specs.declared.custody.Custody.{Custody}
use Rattle.nje_store.specs.declared.custody.Custody.TheVariants as custody
use Rattle.nje_store.specs.Custody.{custody_of}
use Rattle.step_turns.specs.Courses.{Finds, holder_then, task_most}
use Rattle.step_turns.specs.Decks.{job_opened, opening}
use Rattle.step_turns.specs.Entries.{all_entries, closing_reply, given_in, reply_to}
use Rattle.step_turns.specs.Serving.{Arrival, arrived, bytes_given, counts_got, counts_sent, heard, offered, serves_first, unread, with_frames}
use Rattle.step_turns.specs.Sittings.{sit}
use Rattle.step_turns.specs.States.{Acknowledge, Away, Exchange, Found, Fresh, Holder, Line, Offer, Service, SpoolArrival, State}

-- what a step gives as a whole: its entries, the bytes on its line, and the lines with which it closes
pub record Whole : Type 0 where
  pub entries : List Entry
  pub given : List ℕ
  pub lines : List (List ℕ)

abbrev pub closes_so : List (List ℕ) → Whole
closes_so lines = record { entries = []; given = []; lines = lines }

abbrev pub with_entries : List Entry → Whole → Whole
with_entries es w = record w { entries = es ++ w.entries }

abbrev pub with_bytes : List ℕ → Whole → Whole
with_bytes bytes w = record w { given = bytes ++ w.given }

-- the frames that follow
abbrev pub Rest : Type 0
Rest = Service → Queue → Whole

module _ (by : MemberId) (at : ℕ) where
  abbrev gives : Queue → List Command → List Entry
  gives Q cs = given_in Q by at cs

  abbrev ends_as : Closing → Whole
  ends_as end = closes_so (closing_line by at end ∷ [])

  -- an acknowledgement
  abbrev pub left_by : ℕ → Rest → Rest
  left_by number rest s Q =
      let c = command.Sent s.line number in
      with_entries (gives Q (c ∷ [])) (rest (counts_sent (reply_to Q by c) s) (run Q (gives Q (c ∷ []))))

  -- a job whose text stands in its groups: it is got and acknowledged, or dropped
  abbrev pub got_so : Bool → Command → JobNo → ℕ → Rest → Rest
  got_so true c n number rest s Q = with_entries (gives Q (c ∷ command.Drop n ∷ []))
      (closes_so (reply_lines by at (reply_to Q by c)))
  got_so false c n number rest s Q = with_entries (gives Q (c ∷ []))
      (with_bytes (frame_text (frame.Ack number)) (rest (counts_got s) (run Q (gives Q (c ∷ [])))))

  abbrev pub got_with_text : ℕ → JobNo → List (List ℕ) → Rest → Rest
  got_with_text number n text rest s Q =
      let c = command.Got s.line number n text in
      got_so (is_refusal (reply_to Q by c)) c n number rest s Q

  -- a job that gets its groups, or is refused them
  abbrev pub opened_so : Option JobNo → List Entry → Arrival → Rest → Rest
  opened_so (Some n) es a rest s Q = with_entries es (got_with_text a.number n (text_of a.text) rest s (run Q es))
  opened_so None es a rest s Q = with_entries es (closes_so (reply_lines by at (closing_reply es)))

  abbrev pub read_so : Result JobFields Refused → Arrival → Rest → Rest
  read_so (Err bad) a rest s Q = ends_as (closing.BadCard bad.card bad.cause)
  read_so (Ok fields) a rest s Q =
      let groups = groups_needed (text_of a.text) in
      opened_so (job_opened Q by (arrived a fields) groups) (gives Q (opening Q by (arrived a fields) groups)) a rest s Q

  abbrev pub came : Custody → Arrival → Rest → Rest
  came custody.Next a rest s Q = read_so (read_as Q.config.node a.text) a rest s Q
  came (custody.Again number) a rest s Q = with_bytes (frame_text (frame.Ack number)) (rest s Q)
  came (custody.Gap number kept) a rest s Q = rest s Q

  abbrev pub frame_so : Frame → Rest → Rest
  frame_so (frame.Ack number) rest s Q = left_by number rest s Q
  frame_so (frame.Job number origin node text) rest s Q =
      let a : Arrival = record { number = number; origin = origin; node = node; text = text } in
      came (custody_of (got_on Q s.line) number) a rest s Q

  -- FRAMES ONE AFTER ANOTHER
  abbrev pub frames_so : List Frame → Rest
  frames_so [] s Q = ends_as (closing.Line s.sent s.got)
  frames_so (f ∷ fs) s Q = frame_so f (frames_so fs) (with_frames fs s) Q

  -- THE STEP, by what it finds once it has loaded: a text that can't be read closes it
  abbrev pub exchanged_so : Option Closing → Found → Rest
  exchanged_so (Some end) found s Q = ends_as end
  exchanged_so None found s Q = frames_so (heard found) s Q

  abbrev pub line_so : Queue → ℕ → Finds → Whole
  line_so Q l finds =
      let es = gives Q (command.Load l ∷ []) in
      let R = run Q es in
      let waits = Away (Exchange l (offered R l (reply_to Q by (command.Load l)))) in
      let found = finds R waits in
      with_entries es (with_bytes (bytes_given waits found.read)
      (exchanged_so (unread (offered R l (reply_to Q by (command.Load l))) found.read) found (serves_first l) R))

-- WHAT ITS SITTINGS GIVE, so many at most, one after another

abbrev pub sat_then : List Entry → List ℕ → List (List ℕ) → Whole → Whole
sat_then es bytes lines w = record { entries = es ++ w.entries; given = bytes ++ w.given; lines = lines ++ w.lines }

abbrev pub given_by_sittings : ℕ → Finds → Queue → Holder → State → Whole
given_by_sittings zero finds Q h s = closes_so []
given_by_sittings (suc more) finds Q h s =
    let t = sit Q h s (finds Q s) in
    let es = all_entries t.batches in
    let R = run Q es in
    sat_then es (bytes_given t.next (finds R t.next).read) t.lines
    (given_by_sittings more finds R (holder_then Q h es) t.next)

-- no line is found lost, and no volume where a job's text is written
pub record LosesNothing (finds : Finds) : Type 0 where
  pub exchange : (Q : Queue) (l : ℕ) (offer : Option Offer) → (finds Q (Away (Exchange l offer))).wire ≡ false
  pub arrival : (Q : Queue) (number : ℕ) (n : JobNo) (text : List (List ℕ)) (s : Service)
      → (finds Q (Away (SpoolArrival number n text s))).lost ≡ None
  pub answer : (Q : Queue) (number : Option ℕ) (s : Service) → (finds Q (Away (Acknowledge number s))).wire ≡ false

-- Whatever hold its member has, and however it came to the lock, the step gives what it gives read straight.
abbrev pub LineIsReadStraight : Type 0
LineIsReadStraight = (finds : Finds) (Q : Queue) (h : Holder) (l : ℕ) → LosesNothing finds
    → given_by_sittings (task_most (Line l)) finds Q h (Fresh (Line l)) ≡ line_so h.by h.step Q l finds
