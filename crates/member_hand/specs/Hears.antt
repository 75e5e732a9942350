-- What a member's step gives on its line, what it takes from it, and what it hears of that.
use Rattle.std.specs.Prelude.{◌≡◌, ◌≢◌, ◌⊎◌, ℕ, ◌≤◌, List, [], ◌∷◌, ◌++◌, length, Option, Some, None, Result, Ok, Err}
use Rattle.mas_types.specs.declared.ids.MemberId.{MemberId}
use Rattle.spool_plant.specs.View.{View, given_now, taken_now}
use Rattle.member_node.specs.declared.member.NodeNo.{NodeNo}
use Rattle.step_turns.specs.Courses.{Finds}
use Rattle.step_turns.specs.Serving.{exchange_end, taken_most}
use Rattle.step_turns.specs.declared.states.Aside.TheVariants.{Acknowledge, Exchange, SpoolArrival}
use Rattle.step_turns.specs.declared.states.Found.{Found}
use Rattle.step_turns.specs.declared.states.Offer.{Offer}
use Rattle.step_turns.specs.declared.states.State.{State}
use Rattle.step_turns.specs.declared.states.State.TheVariants.{Away, Fresh}
use Rattle.step_turns.specs.declared.states.Task.TheVariants.{Line}
use Rattle.member_wires.specs.Acts.{ReadsOn}
use Rattle.member_hand.specs.Found.{Wait}

-- THE LINE that a step serves, if it serves one

abbrev pub line_served : State → Option ℕ
line_served (Fresh (Line l)) = Some l
line_served (Away (Exchange l offer)) = Some l
line_served (Away (SpoolArrival number job cards service)) = Some service.line
line_served (Away (Acknowledge number service)) = Some service.line
line_served s = None

-- another line than this, or another member's end of it
abbrev pub IsElsewhere : Option ℕ → MemberId → ℕ → ℕ → Type 0
IsElsewhere served by w m = (served ≢ Some w) ⊎ (m ≢ by.0)

-- GIVING: the member gave these bytes on the line that it serves. Nobody gave or took anything elsewhere.
pub record GivesOnly (by : MemberId) (served : Option ℕ) (bytes : List ℕ) (old new : View) : Type 0 where
  pub given : (w : ℕ) → served ≡ Some w → given_now new w by.0 ≡ given_now old w by.0 ++ bytes
  pub else_given : (w m : ℕ) → IsElsewhere served by w m → given_now new w m ≡ given_now old w m
  pub else_taken : (w m : ℕ) → IsElsewhere served by w m → taken_now new w m ≡ taken_now old w m

-- TAKING

-- nothing was taken from any line, and as much waits
pub record TakesNothing (old new : View) : Type 0 where
  pub taken : (w m : ℕ) → taken_now new w m ≡ taken_now old w m
  pub waiting : (w : ℕ) → new.waiting w ≡ old.waiting w

-- The member took these bytes from the line: no more than a step may, and those that waited before all others. Unless
-- that closes the step, nothing was left waiting, or no more might be taken.
pub record HasTaken (by : MemberId) (l : ℕ) (offer : Option Offer) (found : Found) (old new : View) : Type 0 where
  pub bytes : List ℕ
  pub few : length bytes ≤ taken_most
  pub taken : taken_now new l by.0 ≡ taken_now old l by.0 ++ bytes
  pub waited : old.waiting l ≡ bytes ++ new.waiting l
  pub others : (w : ℕ) → w ≢ l → new.waiting w ≡ old.waiting w
  pub all : exchange_end offer l found ≡ None → (length bytes ≡ taken_most) ⊎ (new.waiting l ≡ [])

-- The frames are those that the bytes complete in the stream which the reader had of the line, unless that closes the
-- step. It goes on with what may be the front of another one. Where nothing was taken no frame came, and the reader is
-- as it was.
pub record Hears (l : ℕ) (offer : Option Offer) (found : Found) (was is : Option (List ℕ)) (bytes : List ℕ) : Type 0
  where
    pub frames : exchange_end offer l found ≡ None → ReadsOn was is bytes found.frames
    pub read : ReadsOn was is bytes found.frames ⊎ ((bytes ≡ []) × (found.frames ≡ []) × (is ≡ was))

abbrev pub IsEndedEarly : Result (Unit {0}) NodeNo → Type 0
IsEndedEarly (Ok done) = ⊥
IsEndedEarly (Err why) = Unit {0}

module _ (by : MemberId) (old new : View) (was is : Option (List ℕ)) where
  -- in the acts that a step waits for: only the exchange takes anything
  abbrev pub HearsIn : State → Found → Type 0
  HearsIn (Away (Exchange l offer)) found = (h : HasTaken by l offer found old new) × Hears l offer found was is h.bytes
  HearsIn s found = TakesNothing old new

  -- A step that serves a line waits for its exchange first, and for no other one. A step that ended with an error
  -- before that was over may have taken something.
  abbrev pub HearsAtFirst : Result (Unit {0}) NodeNo → Finds → List Wait → Type 0
  HearsAtFirst result finds [] = IsEndedEarly result
  HearsAtFirst result finds (w ∷ ws) = HearsIn w.state (finds w.queue w.state)

  -- in a step from a state on, by the places at which it waited, and what it found there
  abbrev pub HearsStep : State → Result (Unit {0}) NodeNo → Finds → List Wait → Type 0
  HearsStep (Fresh (Line l)) result finds waits = HearsAtFirst result finds waits
  HearsStep s result finds waits = TakesNothing old new

-- THE READER is as it was, unless a step waits for the exchange; or is to, from a state on

abbrev pub ReaderStaysIn : State → Option (List ℕ) → Option (List ℕ) → Type 0
ReaderStaysIn (Away (Exchange l offer)) was is = Unit {0}
ReaderStaysIn s was is = is ≡ was

abbrev pub ReaderStaysFrom : State → Option (List ℕ) → Option (List ℕ) → Type 0
ReaderStaysFrom (Fresh (Line l)) was is = Unit {0}
ReaderStaysFrom s was is = is ≡ was
