-- What the parts of a turn did, for every answer: a sitting with its lock, acts aside, and the reset of a member whose
-- lock was taken over.
use Rattle.std.specs.Prelude.{◌≡◌, ◌⊎◌, ℕ, [], ◌∷◌, List, Option, Some, All, Result, Ok, Err}
use Rattle.mas_types.specs.declared.commands.Command.TheVariants as command
use Rattle.mas_types.specs.declared.commands.Reply.{Reply}
use Rattle.mas_types.specs.declared.ids.MemberId.{MemberId}
use Rattle.spool_plant.specs.declared.plant.Plant.{Ghosts as PlantGhosts}
use Rattle.ckpt_copy.specs.declared.copying.Copying.{Ghosts as CopyGhosts}
use Rattle.ckpt_form.specs.declared.steady.Steady.{Ghosts as SteadyGhosts}
use Rattle.mas_complex.specs.declared.complex.Complex.{Complex}
use Rattle.mas_complex.specs.Parts.{Parts, parts_of}
use Rattle.step_turns.specs.Sittings.{Sitting}
use Rattle.step_turns.specs.States.{nothing_found}
use Rattle.step_turns.specs.declared.states.Holder.{Holder}
use Rattle.step_turns.specs.declared.states.Release.TheVariants.{Inner}
use Rattle.step_turns.specs.declared.states.State.TheVariants.{Told}
use Rattle.race_turns.specs.Turns.{reset_sitting, stage_after}
use Rattle.member_node.specs.declared.member.Member.{Member}
use Rattle.member_node.specs.declared.member.NodeNo.{NodeNo}
use Rattle.member_steps.specs.Steps.{entry_with}
use Rattle.member_decks.specs.Steps.{AreOf}
use Rattle.member_sittings.specs.declared.ends.SittingEnd.{SittingEnd}
use Rattle.member_sittings.specs.Ends.{ends_in}
use Rattle.member_sittings.specs.Sat.{CopiesActed, IsSatAs, Sat, Start, sat_in, seated_in}
use Rattle.member_sittings.specs.Whole.{queue_of}
use Rattle.member_resets.specs.Asides.{ActsAfter}
use Rattle.ckpt_tables.specs.Shape.{page_count}
use Rattle.member_resets.specs.Locks.{left_book, next_holder}
use Rattle.member_resets.specs.Quiet.{IsQuiet}
use Rattle.member_resets.specs.Sits.{LeavesStep}
use Rattle.member_resets.specs.Turns.{HasTurned, taken}
use Rattle.member_resets.specs.Stand.{Stand}
use Rattle.member_resets.specs.Resetting.{IsTaken, IsUntaken, taker_at}
use Rattle.member_racing.specs.Stages.{IsStageOf, stage_of}
use Rattle.member_racing.specs.declared.stages.Stage.{Stage as Stands}
use Rattle.member_racing.specs.declared.stages.Stage.TheVariants as line
use Rattle.mas_types.specs.declared.journals.Fate.{Fate}

-- where a step stands after a sitting that ended so: the next grant brings a whole hold
abbrev pub stand_after : Holder → ℕ → SittingEnd → Stand
stand_after h whole e = record { holder = next_holder h whole e.given; state = e.next; found = nothing_found }

-- a sitting that gives a reset of this member, with some reply, and says nothing
abbrev pub GivesReset : Holder → MemberId → Sitting → Type 0
GivesReset h of t = (r : Reply)
    × (t ≡ ends_in h ((entry_with h.by h.step (command.Reset of) r ∷ []) ∷ []) Told [])

module _ {P C : Type 0} (plants : PlantGhosts P) (copies : CopyGhosts C) where
  -- THE SEAT: the member has the lock, or takes it again, and reads what the copies have
  pub record HasSeat (by : MemberId) (x seat : Parts P C) (result : Result (Unit {0}) NodeNo) : Type 0 where
    pub frame : seat ≡ seated_in seat (taken by x)
    pub acts : CopiesActed plants by (taken by x) seat result

  -- It took its seat and sat there, or was cut in that.
  pub record HasSat (s : Start) (x y : Parts P C) (result : Result SittingEnd NodeNo) : Type 0 where
    pub seat : Parts P C
    pub took : HasSeat s.holder.by x seat (Ok tt)
    pub frame : y ≡ sat_in y seat
    pub sat : Sat plants s seat y result

  -- A sitting that ended well, with the lock left or kept as its end says; and the member goes on from there.
  pub record SitsOut (s : Start) (x y : Parts P C) (n : Member) (next : Stands) : Type 0 where
    pub end : SittingEnd
    pub there : Parts P C
    pub turn : HasTurned plants s x there end
    pub frame : y ≡ record there { book = left_book there.book s.holder.by end.given end.release }
    pub on : LeavesStep plants copies x there n s end
    pub stands : stage_of next ≡ stage_after end.next
    pub stage : IsStageOf (stand_after s.holder x.base.config.hold end) next

  -- by the answer: after an error the member holds the lock still
  abbrev pub SitsBy : Start → Parts P C → Parts P C → Member → Result Stands NodeNo → Type 0
  SitsBy s x y n (Ok next) = SitsOut s x y n next
  SitsBy s x y n (Err e) = HasSeat s.holder.by x y (Err e) ⊎ HasSat s x y (Err e)

  -- ACTS ASIDE, after which the step sits again with what was found; its step serves no line
  abbrev pub ActsBy : Parts P C → Parts P C → Member → Stand → Result Stands NodeNo → Type 0
  ActsBy x y m s (Ok next) = (at : Stand) × (is : Option (List ℕ)) × (next ≡ line.Sits at)
      × (at ≡ record s { found = at.found }) × ActsAfter plants x y m s.state (Some []) is (Ok at.found)
  ActsBy x y m s (Err e) = (is : Option (List ℕ)) × ActsAfter plants x y m s.state (Some []) is (Err e)

  -- A RESET that says nothing, by a member at its seat. Where content is told it is the one that the queue gives.
  pub record GaveReset (h : Holder) (of : MemberId) (x y : Parts P C) (result : Result SittingEnd NodeNo) : Type 0
    where
      pub sitting : Sitting
      pub is : plants.tells → record sitting { release = Inner } ≡ reset_sitting (queue_of x) h.by h.step of
      pub shaped : GivesReset h of sitting
      pub own : All (AreOf h.by h.step) sitting.batches
      pub sat : IsSatAs plants h.by sitting x y result

  pub record SeatsAndResets (h : Holder) (of : MemberId) (x y : Parts P C) (result : Result SittingEnd NodeNo)
      : Type 0 where
    pub seat : Parts P C
    pub took : HasSeat h.by x seat (Ok tt)
    pub frame : y ≡ sat_in y seat
    pub gave : GaveReset h of seat y result

  -- The lock was taken over, and then the stopped member was reset, and the lock given up, while nothing goes on; or
  -- less of it, by the answer.
  pub record ResetsTaken (by : MemberId) (at : ℕ) (of : MemberId) (x y : Parts P C) : Type 0 where
    pub mid : Parts P C
    pub found : Fate
    pub taken_over : IsTaken plants copies by of x mid found
    pub end : SittingEnd
    pub there : Parts P C
    pub reset : SeatsAndResets (taker_at plants copies by at mid) of mid there (Ok end)
    pub frame : y ≡ record there { book = left_book there.book by end.given Inner }
    pub quiet : IsQuiet plants copies y (page_count x.base.config)

  pub record BreaksReset (by : MemberId) (at : ℕ) (of : MemberId) (x y : Parts P C) (e : NodeNo) : Type 0 where
    pub mid : Parts P C
    pub found : Fate
    pub taken_over : IsTaken plants copies by of x mid found
    pub why : HasSeat by mid y (Err e) ⊎ SeatsAndResets (taker_at plants copies by at mid) of mid y (Err e)

  abbrev pub TakesBy : MemberId → ℕ → MemberId → Parts P C → Parts P C → Result (Unit {0}) NodeNo → Type 0
  TakesBy by at of x y (Ok done) = ResetsTaken by at of x y
  TakesBy by at of x y (Err e) = IsUntaken plants copies by of x y e ⊎ BreaksReset by at of x y e

-- OVER THE SHARED VALUE

module _ {P C : Type 0} {plants : PlantGhosts P} {steadies : SteadyGhosts C} {copies : CopyGhosts C} where
  abbrev pub SitsTurn : Start → Complex P C plants steadies copies → Complex P C plants steadies copies → Member
      → Result Stands NodeNo → Type 0
  SitsTurn s x y n result = SitsBy plants copies s (parts_of x) (parts_of y) n result

  abbrev pub ActsTurn : Complex P C plants steadies copies → Complex P C plants steadies copies → Member → Stand
      → Result Stands NodeNo → Type 0
  ActsTurn x y m s result = ActsBy plants copies (parts_of x) (parts_of y) m s result

  abbrev pub GivesQuietly : Holder → MemberId → Complex P C plants steadies copies → Complex P C plants steadies copies
      → Result SittingEnd NodeNo → Type 0
  GivesQuietly h of x y result = GaveReset plants copies h of (parts_of x) (parts_of y) result

  abbrev pub TakesTurnOf : MemberId → ℕ → MemberId → Complex P C plants steadies copies
      → Complex P C plants steadies copies → Result (Unit {0}) NodeNo → Type 0
  TakesTurnOf by at of x y result = TakesBy plants copies by at of (parts_of x) (parts_of y) result
