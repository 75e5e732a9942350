-- A member's line in a race, a turn at a time. Each turn goes by the queue and the book that it finds, whatever the
-- others did before.
use Rattle.std.specs.Prelude.{ℕ, ◌&&◌, false, if◌then◌else◌, List, [], ◌∷◌, Option, Some, None}
use Rattle.mas_types.specs.declared.commands.Command.TheVariants as command
use Rattle.mas_types.specs.declared.ids.MemberId.{MemberId}
use Rattle.mas_types.specs.declared.queues.Config.{Config}
use Rattle.mas_types.specs.declared.queues.Queue.{Queue}
use Rattle.mas_types.specs.Ids.{is_somebody}
use Rattle.lock_cycle.specs.Books.{Book, is_stopped}
use Rattle.script_lang.specs.declared.types.Ask.{Ask}
use Rattle.step_turns.specs.Entries.{entry_of}
use Rattle.step_turns.specs.Sittings.{Sitting, sit}
use Rattle.step_turns.specs.States.{nothing_found}
use Rattle.step_turns.specs.declared.states.Found.{Found}
use Rattle.step_turns.specs.declared.states.Grant.TheVariants.{ForStep}
use Rattle.step_turns.specs.declared.states.Holder.{Holder}
use Rattle.step_turns.specs.declared.states.Release.TheVariants.{Inner, Keep}
use Rattle.step_turns.specs.declared.states.State.{State}
use Rattle.step_turns.specs.declared.states.State.TheVariants.{Away, Fresh, Rested, Told}
use Rattle.run_turns.specs.Admissions.{Admission, Denied, Frees, Locks, Plays, Refused, Replaces, Resets, TakesOver, Unplayed, admitted}
use Rattle.run_turns.specs.Pieces.{Piece, chunk, closes_with, inked_of, piece_of, poured, reset_pieces, with_given}

-- Where a line stands between two turns: its first try is still to come, or was refused; it waits for a sitting, with
-- what was found in the acts before that; it waits for acts aside; or it has closed.
pub data Stage : Type 0 where
  Opens : Stage
  Sits : State → Found → Stage
  Acts : State → Stage
  Closed : Stage

-- What a turn gives, by whom its lines are said, and where the line stands then.
pub record Turn : Type 0 where
  pub sayer : MemberId
  pub pieces : List Piece
  pub next : Stage

-- THE LOCK is had for the step, with a whole hold
abbrev pub racer : Config → MemberId → ℕ → Holder
racer config by at = record { by = by; step = at; hold = config.hold; grant = ForStep }

-- the stopped member that holds the lock, if one does
abbrev pub left_holder : Book → Option MemberId
left_holder b = if is_somebody b.holder && is_stopped b b.holder then Some b.holder else None

-- KINDS OF TURNS

-- a try that was refused: the line stands as it stood
abbrev pub waits : MemberId → Stage → Turn
waits by s = record { sayer = by; pieces = []; next = s }

-- The lock of a stopped member was taken over, and that member is reset as the next command of the line. The lock is
-- given up, and the line stands as it stood.
abbrev pub reset_sitting : Queue → MemberId → ℕ → MemberId → Sitting
reset_sitting Q by at of = record {
  batches = (entry_of Q by at (command.Reset of) ∷ []) ∷ [];
  next = Told;
  lines = [];
  release = Inner;
}

abbrev pub takes : Queue → MemberId → ℕ → MemberId → Stage → Turn
takes Q by at of s = record { sayer = by; pieces = piece_of (reset_sitting Q by at of) false [] ∷ []; next = s }

-- where a line stands after a sitting
abbrev pub stage_after : State → Stage
stage_after Told = Closed
stage_after (Away aside) = Acts (Away aside)
stage_after (Fresh task) = Sits (Fresh task) nothing_found
stage_after (Rested p) = Sits (Rested p) nothing_found

abbrev pub sits : MemberId → Sitting → Turn
sits by t = record { sayer = by; pieces = piece_of t false [] ∷ []; next = stage_after t.next }

-- acts aside, in which this was found: the next lines of an output are printed, a frame is given on a line to another
-- node, or nothing that stands in the history, on paper or on a line; where the printer or the line was found lost, so
-- many of the lines or bytes went out
abbrev pub no_sitting : Sitting
no_sitting = record { batches = []; next = Told; lines = []; release = Keep }

abbrev pub acts : Queue → MemberId → ℕ → ℕ → State → Found → Turn
acts Q by count inked s found = record {
  sayer = by;
  pieces = with_given (poured inked s found)
      (piece_of no_sitting found.printer (inked_of found.printer inked (chunk Q count s found.read))) ∷ [];
  next = Sits s found;
}

-- A line that gets no further.
abbrev pub closes : MemberId → List Piece → Turn
closes sayer pieces = record { sayer = sayer; pieces = pieces; next = Closed }

-- A TURN

-- unless a stopped member holds the lock
abbrev pub unless_left : Option MemberId → Queue → MemberId → ℕ → Stage → Turn → Turn
unless_left None Q by at s t = t
unless_left (Some of) Q by at s t = takes Q by at of s

-- The first turn, by what becomes of the line. In a race no line keeps the lock, gives it up or replaces a copy.
abbrev pub opens : Queue → Book → MemberId → ℕ → Admission → Turn
opens Q b by at (Refused sayer end) = closes sayer (closes_with by at end Keep)
opens Q b by at (Denied why) = unless_left (left_holder b) Q by at Opens (waits by Opens)
opens Q b by at (Plays task) = sits by (sit Q (racer Q.config by at) (Fresh task) nothing_found)
opens Q b by at (Resets of) = closes by (reset_pieces Q (racer Q.config by at) of)
opens Q b by at (TakesOver of) = closes by (reset_pieces Q (racer Q.config by at) of)
opens Q b by at (Replaces dev) = closes by []
opens Q b by at Locks = closes by []
opens Q b by at Frees = closes by []
opens Q b by at Unplayed = closes by []

-- The turn of a member at its line of this number, which stands so, at the queue and the book that it finds. A takeover
-- finds out first what became of a batch in flight: this is the queue after that. So many lines were printed since the
-- member picked its output or moved its mark, and this is found in acts aside.
abbrev pub turn_at : Queue → Book → MemberId → ℕ → Ask → ℕ → ℕ → Found → Stage → Turn
turn_at Q b by at what count inked found Opens = opens Q b by at (admitted Q.config b by what)
turn_at Q b by at what count inked found (Sits s f) =
    unless_left (left_holder b) Q by at (Sits s f) (sits by (sit Q (racer Q.config by at) s f))
turn_at Q b by at what count inked found (Acts s) =
    unless_left (left_holder b) Q by at (Acts s) (acts Q by count inked s found)
turn_at Q b by at what count inked found Closed = waits by Closed
