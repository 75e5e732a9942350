-- Lines to other nodes in a run: the bytes that each line of a script gives on one, and those that it takes from it,
-- with the frames that these complete in the stream that its member took from it in the run.
use Rattle.mas_run.specs.Names.{MemberId, wires_most, SameWires, View, taken_now, Finds, Away, Task, Line as Node, whole_pieces, Wait, waits_in, Admission, Denied, Plays, Refused, queue_met, Completes}
use Rattle.std.specs.Prelude.{◌≡◌, ℕ, ◌-◌, ◌+◌, ◌*◌, List, [], ◌∷◌, drop, length, take, Some}
use Rattle.step_turns.specs.declared.states.Aside.TheVariants.{Exchange}
use Rattle.step_turns.specs.declared.states.Found.{Found}
use Rattle.step_turns.specs.declared.states.State.{State}
use Rattle.member_resets.specs.Hears.{GivesOnly, HasTaken, TakesNothing}
use Rattle.mas_run.specs.LinesAt.{LineAt, pieces_as}

-- THE STREAM

-- what a member has taken from a line since a moment
abbrev pub stream_since : ℕ → View → ℕ → MemberId → List ℕ
stream_since since v line m = drop (length ((v.world since).taken line m.0)) (taken_now v line m.0)

-- A LINE THAT SERVES a line to another node

module _ (since : ℕ) (by : MemberId) (old new : View) where
  -- Where it waited first, for the exchange, it took bytes; and then it waited for no other one, if it came so far. The
  -- frames that came are those that the bytes complete in the stream that its member took from the line in the run.
  abbrev pub HeardIn : State → Found → Type 0
  HeardIn (Away (Exchange line offer)) found =
      (h : HasTaken by line offer found old new) × Completes (stream_since since old line by) h.bytes found.frames
  HeardIn s found = TakesNothing old new

  abbrev pub HeardFirst : Finds → List Wait → Type 0
  HeardFirst finds [] = Unit {0}
  HeardFirst finds (w ∷ ws) = HeardIn w.state (finds w.queue w.state)

-- where a line waited, after the pieces that it played whole
abbrev pub waits_as : LineAt → Admission → List Wait
waits_as l a =
    let ps = pieces_as l a in
    waits_in (take (whole_pieces l.given.sight.cut ps) ps) (queue_met l.scene a l.given.sight)

-- Its member gave these bytes on the line, in a run since this moment. Nobody gave or took any elsewhere.
pub record ServesNode (since : ℕ) (l : LineAt) (line : ℕ) (given : List ℕ) (old new : View) : Type 0 where
  pub gives : GivesOnly l.step.by (Some line) given old new
  pub hears : HeardFirst since l.step.by old new l.given.sight.finds (waits_as l (Plays (Node line)))

-- WHATEVER A LINE IS ADMITTED TO: none but one that serves a line to another node gives or takes bytes
abbrev pub Carries : ℕ → LineAt → Admission → List ℕ → View → View → Type 0
Carries since l (Plays (Node line)) given old new = ServesNode since l line given old new
Carries since l (Refused sayer end) given old new = (given ≡ []) × SameWires old new
Carries since l (Denied why) given old new = (given ≡ []) × SameWires old new
Carries since l a given old new = SameWires old new

-- THE READERS of a run

-- and of the reader of a task, by a member of this place: that of its line, or else the member's first one
abbrev pub task_place : ℕ → Task → ℕ
task_place at (Node line) = wires_most * at + (line - 1)
task_place at _ = wires_most * at
