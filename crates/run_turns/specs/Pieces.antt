-- A line of a member as it goes where nothing cuts it: its sittings one after another, each with the lines that are
-- printed in the acts after it, and what becomes of the lock.
use Rattle.std.specs.Prelude.{ℕ, zero, suc, ◌+◌, ◌-◌, Bool, true, false, List, [], ◌∷◌, length, take, Option, Some, None}
use Rattle.std.specs.Option.{option_map_or}
use Rattle.mas_types.specs.declared.answers.Closing.{Closing}
use Rattle.mas_types.specs.declared.answers.Closing.TheVariants as closing
use Rattle.mas_types.specs.declared.commands.Command.TheVariants as command
use Rattle.mas_types.specs.declared.commands.Reply.{Reply}
use Rattle.mas_types.specs.declared.commands.Reply.TheVariants as reply
use Rattle.mas_types.specs.declared.ids.Dev.{Dev}
use Rattle.mas_types.specs.declared.ids.MemberId.{MemberId}
use Rattle.mas_types.specs.declared.ids.JobNo.{JobNo}
use Rattle.mas_types.specs.declared.ids.OutNo.{OutNo}
use Rattle.mas_types.specs.declared.jobs.Output.{Output}
use Rattle.mas_types.specs.declared.journals.Entry.{Entry}
use Rattle.mas_types.specs.declared.journals.Fate.{Fate}
use Rattle.mas_types.specs.declared.journals.Fate.TheVariants.{Flying}
use Rattle.mas_types.specs.declared.queues.Queue.{Queue}
use Rattle.mas_types.specs.Closings.{closing_line}
use Rattle.mas_types.specs.Printed.{printed_line}
use Rattle.mas_types.specs.Queue.{output_at}
use Rattle.mas_types.specs.Run.{run}
use Rattle.lock_cycle.specs.Books.{Book, after_free, after_spend, after_try, left_of}
use Rattle.job_outcome.specs.declared.outcomes.Read.{Read}
use Rattle.job_outcome.specs.declared.outcomes.Read.TheVariants as read
use Rattle.step_turns.specs.Courses.{holder_then, task_most}
use Rattle.step_turns.specs.Entries.{all_entries, reply_to}
use Rattle.step_turns.specs.Serving.{bytes_given}
use Rattle.step_turns.specs.Sittings.{Sitting, released, sit}
use Rattle.step_turns.specs.declared.states.Task.{Task}
use Rattle.step_turns.specs.declared.states.Task.TheVariants.{Give}
use Rattle.step_turns.specs.declared.states.Aside.TheVariants.{Acknowledge, Exchange, PrintLines}
use Rattle.step_turns.specs.declared.states.Found.{Found}
use Rattle.step_turns.specs.declared.states.State.{State}
use Rattle.step_turns.specs.declared.states.State.TheVariants.{Away, Fresh, Told}
use Rattle.step_turns.specs.declared.states.Holder.{Holder}
use Rattle.step_turns.specs.declared.states.Release.{Release}
use Rattle.step_turns.specs.declared.states.Release.TheVariants.{Inner, Keep, Outer}
use Rattle.step_turns.specs.States.{nothing_found}
use Rattle.run_turns.specs.Sights.{LostAgain, NotLost, Renewed, Replaced, Sight}
use Rattle.run_turns.specs.Scenes.{Scene, count_then, flight_found, queue_found}
use Rattle.run_turns.specs.Admissions.{Admission, Denied, Frees, Locks, Plays, Refused, Replaces, Resets, TakesOver, Unplayed, denied_closing, granted_by, tried}

-- a sitting, the lines that are printed in the acts that follow it, how many prints these are, one more where the
-- printer is found lost, and the bytes that are given on a line to another node
pub record Piece : Type 0 where
  pub sitting : Sitting
  pub printed : List (List ℕ)
  pub prints : ℕ
  pub given : List ℕ

-- PRINTING

-- so many lines of an output, from line first on, as they are printed
abbrev pub lines_from : JobNo → OutNo → List (List ℕ) → ℕ → ℕ → List (List ℕ)
lines_from n i text first zero = []
lines_from n i text first (suc more) = printed_line n i first text ∷ lines_from n i text (first + 1) more

-- the lines after the mark up to this one, except so many that the member has printed already
abbrev pub chunk_of : ℕ → ℕ → List (List ℕ) → Output → List (List ℕ)
chunk_of count last text o = lines_from o.job o.index text (o.mark + count + 1) (last - (o.mark + count))

abbrev pub chunk : Queue → ℕ → State → Read → List (List ℕ)
chunk Q count (Away (PrintLines n i last p)) (read.Lines text) = option_map_or (chunk_of count last text)
    (output_at Q n i) []
chunk Q count _ _ = []

-- a chunk's lines: where the printer is found lost, so many of them stand on paper, and one more print was tried
abbrev pub inked_of : Bool → ℕ → List (List ℕ) → List (List ℕ)
inked_of true inked lines = take inked lines
inked_of false inked lines = lines

abbrev pub prints_of : Bool → List (List ℕ) → ℕ
prints_of true lines = length lines + 1
prints_of false lines = length lines

-- a sitting with the lines that are printed after it, and no bytes
abbrev pub piece_of : Sitting → Bool → List (List ℕ) → Piece
piece_of t lost lines = record { sitting = t; printed = lines; prints = prints_of lost lines; given = [] }

-- GIVING: where the line is found lost, so many of the bytes were given
abbrev pub poured_of : Bool → ℕ → List ℕ → List ℕ
poured_of true n bytes = take n bytes
poured_of false n bytes = bytes

-- in the acts that a step waits for in this state
abbrev pub poured : ℕ → State → Found → List ℕ
poured n (Away (Exchange l offer)) found = poured_of found.wire n (bytes_given (Away (Exchange l offer)) found.read)
poured n (Away (Acknowledge number s)) found =
    poured_of found.wire n (bytes_given (Away (Acknowledge number s)) found.read)
poured n _ found = []

abbrev pub with_given : List ℕ → Piece → Piece
with_given bytes p = record p { given = bytes }

-- A TASK

-- nothing follows the sitting that tells the step
abbrev pub unless_told : State → List Piece → List Piece
unless_told Told more = []
unless_told _ more = more

-- the next piece of a member that has printed so many lines: its sitting, and the acts that follow it at the queue
-- after it
abbrev pub piece_at : Sight → ℕ → Queue → Holder → State → Piece
piece_at sight count Q h s =
    let t = sit Q h s (sight.finds Q s) in
    let es = all_entries t.batches in
    let now = run Q es in
    let found = sight.finds now t.next in
    with_given (poured sight.inked t.next found)
    (piece_of t found.printer (inked_of found.printer sight.inked
    (chunk now (count_then h.by es count) t.next found.read)))

-- the pieces of a step from a state on, so many at most
abbrev pub pieces_from : ℕ → Sight → ℕ → Queue → Holder → State → List Piece
pieces_from zero sight count Q h s = []
pieces_from (suc more) sight count Q h s =
    let p = piece_at sight count Q h s in
    let es = all_entries p.sitting.batches in
    p ∷ unless_told p.sitting.next
    (pieces_from more sight (count_then h.by es count + length p.printed) (run Q es) (holder_then Q h es)
    p.sitting.next)

abbrev pub task_pieces : Sight → ℕ → Queue → Holder → Task → List Piece
task_pieces sight count Q h task = pieces_from (task_most task) sight count Q h (Fresh task)

-- OTHER LINES

-- one piece that only closes
abbrev pub closes_with : MemberId → ℕ → Closing → Release → List Piece
closes_with by at end release =
    piece_of (record { batches = []; next = Told; lines = closing_line by at end ∷ []; release = release }) false []
    ∷ []

-- a reset closes with the name of the member that was reset
abbrev pub reset_closing : MemberId → Reply → Closing
reset_closing of (reply.No why) = closing.Reply (reply.No why)
reset_closing of _ = closing.ResetOf of

abbrev pub reset_pieces : Queue → Holder → MemberId → List Piece
reset_pieces Q h of =
    let c = command.Reset of in
    let t = sit Q h (Fresh (Give c)) nothing_found in
    piece_of (record t { lines = closing_line h.by h.step (reset_closing of (reply_to Q h.by c)) ∷ [] }) false [] ∷ []

-- A replacement closes by what became of the copy. It gives no command, so it spends nothing of the hold.
abbrev pub replaced_closing : Dev → Renewed → Closing
replaced_closing dev Replaced = closing.Reply reply.Plain
replaced_closing dev NotLost = closing.NotLost dev
replaced_closing dev LostAgain = closing.CkptLost dev

abbrev pub replaced_pieces : Holder → Dev → Renewed → List Piece
replaced_pieces h dev found =
    closes_with h.by h.step (replaced_closing dev found) (released h.grant h.hold 0 Told)

-- Nobody who has the lock gives anything while nothing is found out of a batch in flight. Its member holds the lock,
-- and is stopped; so only one that took the lock over, and stopped before it found that out, may come so far.
abbrev pub once_found : Option (List Entry) → List Piece → List Piece
once_found None pieces = pieces
once_found (Some es) pieces = []

-- A LINE

-- a line as it is played: who says its lines; its pieces; the book once the lock was tried for, and whether the member
-- has the lock; and the queue and the batch in flight as the line finds them
pub record Play : Type 0 where
  pub sayer : MemberId
  pub pieces : List Piece
  pub book : Book
  pub locked : Bool
  pub queue : Queue
  pub flight : Option (List Entry)

abbrev pub holder_of : Scene → MemberId → ℕ → Admission → Holder
holder_of S by at a =
    record { by = by; step = at; hold = left_of (tried S.book by a) by; grant = granted_by S.book by }

-- what was found of a batch in flight: anything only by a takeover
abbrev pub fate_by : Admission → Fate → Fate
fate_by (TakesOver of) found = found
fate_by _ found = Flying

abbrev pub fate_found : Admission → Sight → Fate
fate_found a sight = fate_by a sight.flight

abbrev pub sayer_of : MemberId → Admission → MemberId
sayer_of by (Refused sayer end) = sayer
sayer_of by _ = by

abbrev pub is_locked : Admission → Bool
is_locked (Refused sayer end) = false
is_locked (Denied why) = false
is_locked Unplayed = false
is_locked _ = true

-- the pieces at the queue that is found
abbrev pub pieces_of : Scene → MemberId → ℕ → Sight → Queue → Admission → List Piece
pieces_of S by at sight Q (Refused sayer end) = closes_with by at end Keep
pieces_of S by at sight Q (Denied why) = closes_with by at (denied_closing why) Keep
pieces_of S by at sight Q (Plays task) = task_pieces sight (S.counts by) Q (holder_of S by at (Plays task)) task
pieces_of S by at sight Q (Resets of) = reset_pieces Q (holder_of S by at (Resets of)) of
pieces_of S by at sight Q (Replaces dev) = replaced_pieces (holder_of S by at (Replaces dev)) dev sight.renewed
pieces_of S by at sight Q (TakesOver of) = reset_pieces Q (holder_of S by at (TakesOver of)) of
pieces_of S by at sight Q Locks = closes_with by at (closing.Reply reply.Plain) Keep
pieces_of S by at sight Q Frees = closes_with by at (closing.Reply reply.Plain) Outer
pieces_of S by at sight Q Unplayed = []

abbrev pub pieces_found : Bool → Option (List Entry) → List Piece → List Piece
pieces_found true flight pieces = once_found flight pieces
pieces_found false flight pieces = pieces

abbrev pub play_of : Scene → MemberId → ℕ → Sight → Admission → Play
play_of S by at sight a =
    let Q = queue_found (fate_found a sight) S.flight S.queue in
    let flight = flight_found (fate_found a sight) S.flight in
    record {
      sayer = sayer_of by a;
      pieces = pieces_found (is_locked a) flight (pieces_of S by at sight Q a);
      book = tried S.book by a;
      locked = is_locked a;
      queue = Q;
      flight = flight;
    }

-- THE BOOK

-- what a sitting leaves of the lock
abbrev pub released_by : Release → Book → MemberId → Book
released_by Keep b by = b
released_by Inner b by = after_free b by true
released_by Outer b by = after_free b by false

-- a member that gave the lock up within its step has it again
abbrev pub entered : Book → MemberId → Book
entered b by = after_try b by true

-- the book after batches: each entry spends one of the hold
abbrev pub spent : Book → MemberId → List (List Entry) → Book
spent b by ess = after_spend b by (length (all_entries ess))

-- the book after a piece, and after pieces
abbrev pub after_piece : Book → MemberId → Piece → Book
after_piece b by p = released_by p.sitting.release (spent (entered b by) by p.sitting.batches) by

abbrev pub after_pieces : Book → MemberId → List Piece → Book
after_pieces b by [] = b
after_pieces b by (p ∷ ps) = after_pieces (after_piece b by p) by ps
