-- What a sitting does that handles frames: what it writes, the state that it leaves, and its lines.
use Rattle.std.specs.Prelude.{◌≡◌, ℕ, ◌+◌, ◌*◌, ◌≤◌, Bool, true, [], ◌∷◌, length, All, Option, None, Some, Result}
use Rattle.mas_types.specs.declared.answers.Closing.{Closing}
use Rattle.mas_types.specs.declared.answers.Closing.TheVariants as closing
use Rattle.mas_types.specs.declared.ids.MemberId.{MemberId}
use Rattle.mas_types.specs.declared.queues.Queue.{Queue}
use Rattle.mas_types.specs.Closings.{closing_line}
use Rattle.spool_plant.specs.declared.plant.Plant.{Ghosts as PlantGhosts}
use Rattle.ckpt_copy.specs.declared.copying.Copying.{Ghosts as CopyGhosts}
use Rattle.ckpt_form.specs.declared.steady.Steady.{Ghosts as SteadyGhosts}
use Rattle.mas_complex.specs.declared.complex.Complex.{Complex}
use Rattle.mas_complex.specs.Parts.{parts_of}
use Rattle.member_node.specs.declared.member.NodeNo.{NodeNo}
use Rattle.member_decks.specs.Steps.{AreOf}
use Rattle.nje_frames.specs.declared.frames.Frame.{Frame}
use Rattle.nje_frames.specs.declared.frames.Frame.TheVariants as frame
use Rattle.step_turns.specs.Courses.{sittings_most}
use Rattle.step_turns.specs.Entries.{all_entries}
use Rattle.step_turns.specs.Serving.{Arrival, begins, serves}
use Rattle.step_turns.specs.Sittings.{Sitting, released, sitting_of}
use Rattle.step_turns.specs.declared.states.Holder.{Holder}
use Rattle.step_turns.specs.declared.states.Service.{Service}
use Rattle.step_turns.specs.TurnParts.{Turn, says}
use Rattle.member_sittings.specs.declared.ends.SittingEnd.{SittingEnd}
use Rattle.member_sittings.specs.Sat.{IsSat}
use Rattle.member_sittings.specs.Shapes.{LineLines, SaysAtEnd}
use Rattle.member_sittings.specs.Whole.{queue_of}
use Rattle.member_giving.specs.Plays.{PlaysAs, ToPlay, Wrote}
use Rattle.member_giving.specs.Works.{Outside, Place}

-- a step closes so without a reply
abbrev pub EndsLine : Closing → Type 0
EndsLine (closing.Line sent got) = Unit {0}
EndsLine (closing.LineLost line) = Unit {0}
EndsLine (closing.BadCard card cause) = Unit {0}
EndsLine (closing.NoText group) = Unit {0}
EndsLine (closing.SpoolLost volume) = Unit {0}
EndsLine _ = ⊥

-- batches and sittings that may follow, so many together at most, and such lines
pub record IsWithinLine (h : Holder) (most : ℕ) (w : Wrote) : Type 0 where
  pub few : length w.batches + sittings_most w.next ≤ most
  pub says : SaysAtEnd w.next (LineLines h) w.lines

-- The rest of a sitting, as for work, except for what bounds it.
abbrev pub ServesLine : Type 0 → ℕ → ToPlay → Place → Outside → Result SittingEnd NodeNo → Type 0
ServesLine told most rest old new result = PlaysAs told (IsWithinLine rest.holder most) rest old new result

-- A JOB'S FIRST COMMANDS, at the beginning of a sitting

abbrev pub arrival_of : Frame → Arrival
arrival_of (frame.Job number origin node text) =
    record { number = number; origin = origin; node = node; text = text }
arrival_of (frame.Ack number) =
    record { number = number; origin = record { 0 = [] }; node = record { 0 = [] }; text = [] }

-- THE FRAMES THAT ARE LEFT, at the beginning of a sitting, unless something closes the step
abbrev pub ends_or_serves : MemberId → ℕ → Option Closing → Service → Queue → Turn
ends_or_serves by at (Some end) s Q = says (closing_line by at end ∷ [])
ends_or_serves by at None s Q = serves by at s.frames s Q 0

-- what closes the step after an acknowledgement
abbrev pub answer_end : Option ℕ → ℕ → Bool → Option Closing
answer_end (Some number) l true = Some (closing.LineLost l)
answer_end _ l lost = None

module _ {P C : Type 0} {plants : PlantGhosts P} {steadies : SteadyGhosts C} {copies : CopyGhosts C} where
  -- A sitting of a step that serves a line. It gives this turn where content is told. Its batches and the sittings that
  -- may follow are so many together at most.
  pub record SatLine (told : Type 0) (h : Holder) (most : ℕ) (t : Turn) (x y : Complex P C plants steadies copies)
      (result : Result SittingEnd NodeNo) : Type 0 where
    pub sitting : Sitting
    pub is : told → sitting ≡ sitting_of h t
    pub of : All (AreOf h.by h.step) sitting.batches
    pub few : length sitting.batches + sittings_most sitting.next ≤ most
    pub says : SaysAtEnd sitting.next (LineLines h) sitting.lines
    pub release : sitting.release ≡ released h.grant h.hold (length (all_entries sitting.batches)) sitting.next
    pub sat : IsSat plants h.by sitting (parts_of x) (parts_of y) result

  -- it is the one that a job gives at the queue that the member found
  abbrev pub OpensArrival : Type 0 → Holder → Frame → Service → Complex P C plants steadies copies
      → Complex P C plants steadies copies → Result SittingEnd NodeNo → Type 0
  OpensArrival told h f s x y result = SatLine told h (2 * length s.frames + 3)
      (begins h.by h.step 0 (arrival_of f) s (queue_of (parts_of x))) x y result

  -- it is the one that the frames give that are left, or closes the step so
  abbrev pub EndsOrServes : Type 0 → Holder → Option Closing → Service → Complex P C plants steadies copies
      → Complex P C plants steadies copies → Result SittingEnd NodeNo → Type 0
  EndsOrServes told h end s x y result = SatLine told h (2 * length s.frames + 1)
      (ends_or_serves h.by h.step end s (queue_of (parts_of x))) x y result
