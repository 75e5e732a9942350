-- What follows in a sitting that handles frames, by the first of those that are left.
use Rattle.std.specs.Prelude.{ℕ, suc, ◌+◌, ◌≤◌, List, [], ◌∷◌, length, Some}
use Rattle.mas_types.specs.declared.answers.Closing.TheVariants as closing
use Rattle.mas_types.specs.declared.ids.MemberId.{MemberId}
use Rattle.mas_types.specs.declared.queues.Queue.{Queue}
use Rattle.mas_types.specs.Closings.{closing_line}
use Rattle.mas_types.specs.Commands.Wire.{got_on}
use Rattle.job_outcome.specs.declared.units.UnitEnd.{UnitEnd}
use Rattle.job_outcome.specs.declared.units.UnitEnd.TheVariants as ends
use Rattle.nje_frames.specs.declared.frames.Frame.{Frame}
use Rattle.nje_frames.specs.declared.frames.Frame.TheVariants as frame
use Rattle.nje_store.specs.declared.custody.Custody.{Custody}
use Rattle.nje_store.specs.declared.custody.Custody.TheVariants as custody
use Rattle.nje_store.specs.Custody.{custody_of}
use Rattle.step_turns.specs.Serving.{begins, sends, serves, with_frames}
use Rattle.step_turns.specs.declared.states.Service.{Service}
use Rattle.step_turns.specs.declared.states.Aside.TheVariants.{Acknowledge}
use Rattle.step_turns.specs.declared.states.State.TheVariants.{Away}
use Rattle.step_turns.specs.TurnParts.{Turn, leaves, says}
use Rattle.member_frames.specs.declared.nexts.Front.{Front}
use Rattle.member_frames.specs.declared.nexts.Front.TheVariants as front
use Rattle.member_frames.specs.declared.nexts.Next.{Next}
use Rattle.member_frames.specs.declared.nexts.Next.TheVariants as next
use Rattle.member_frames.specs.Plays.{arrival_of}
use Rattle.member_frames.specs.Waits.{HasFrameMore, IsServable}

-- WHAT A FRAME IS to a line, by the numbers that this has got

abbrev pub front_by : Custody → Front
front_by custody.Next = front.Begins
front_by (custody.Again number) = front.Repeats number
front_by (custody.Gap number kept) = front.LeavesOut

abbrev pub front_of : Queue → ℕ → Frame → Front
front_of Q l (frame.Ack number) = front.Answers number
front_of Q l (frame.Job number origin node text) = front_by (custody_of (got_on Q l) number)

-- WHAT FOLLOWS

abbrev pub frames_after : List Frame → List Frame
frames_after [] = []
frames_after (f ∷ fs) = fs

-- by what the first frame is: these frames follow it, and this would follow without it
abbrev pub next_by : Front → Frame → List Frame → Service → Next → Next
next_by (front.Answers number) f fs s more = next.Send number (with_frames fs s)
next_by front.Begins f fs s more = next.Begin (with_frames (f ∷ fs) s)
next_by (front.Repeats number) f fs s more = next.Again number (with_frames fs s)
next_by front.LeavesOut f fs s more = more

abbrev pub next_from : Queue → List Frame → Service → Next
next_from Q [] s = next.End (with_frames [] s)
next_from Q (f ∷ fs) s = next_by (front_of Q s.line f) f fs s (next_from Q fs (with_frames fs s))

abbrev pub next_of : Queue → Service → Next
next_of Q s = next_from Q s.frames s

-- a job that left is counted, unless Sent was refused
abbrev pub counts_by : UnitEnd → Service → Service
counts_by ends.Done s = record s { sent = s.sent + 1 }
counts_by _ s = s

-- THE TURN that it gives, at a queue and with so many commands given in the sitting

module _ (by : MemberId) (at : ℕ) where
  abbrev pub closes_line : Service → Turn
  closes_line s = says (closing_line by at (closing.Line s.sent s.got) ∷ [])

  abbrev pub begins_first : List Frame → Service → Queue → ℕ → Turn
  begins_first [] s Q given = closes_line s
  begins_first (f ∷ fs) s Q given = begins by at given (arrival_of f) (with_frames fs s) Q

  abbrev pub turn_by : Next → Queue → ℕ → Turn
  turn_by (next.Send number s) Q given = sends by at number (serves by at s.frames) s Q given
  turn_by (next.Begin s) Q given = begins_first s.frames s Q given
  turn_by (next.Again number s) Q given = leaves (Away (Acknowledge (Some number) s))
  turn_by (next.End s) Q given = closes_line s

-- HOW MANY FRAMES are left, with the one that is handled next

abbrev pub frames_in : Next → ℕ
frames_in (next.Send number s) = suc (length s.frames)
frames_in (next.Begin s) = length s.frames
frames_in (next.Again number s) = suc (length s.frames)
frames_in (next.End s) = length s.frames

abbrev pub IsJobFirst : List Frame → Type 0
IsJobFirst [] = ⊥
IsJobFirst (frame.Job number origin node text ∷ fs) = Unit {0}
IsJobFirst (frame.Ack number ∷ fs) = ⊥

-- the frames that are left were read from the line, and a job begins only where one is first
abbrev pub IsServableNext : Next → Type 0
IsServableNext (next.Send number s) = IsServable s × HasFrameMore s
IsServableNext (next.Begin s) = IsServable s × IsJobFirst s.frames
IsServableNext (next.Again number s) = IsServable s × HasFrameMore s
IsServableNext (next.End s) = IsServable s

-- it handles one of so many frames
pub record IsRightNext (most : ℕ) (n : Next) : Type 0 where
  pub few : frames_in n ≤ most
  pub servable : IsServableNext n

-- no job begins
abbrev pub IsNoBegin : Next → Type 0
IsNoBegin (next.Begin s) = ⊥
IsNoBegin _ = Unit {0}
