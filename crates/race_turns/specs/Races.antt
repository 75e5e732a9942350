-- A race: the turns of each member in their order, each at its place in the one history.
use Rattle.std.specs.Prelude.{◌≡◌, ℕ, ◌+◌, ◌≤◌, Bool, true, false, not, ◌||◌, if◌then◌else◌, List, [], ◌∷◌, ◌++◌, length, map, filter, take, drop, Option, Some, None}
use Rattle.mas_types.specs.declared.ids.MemberId.{MemberId}
use Rattle.mas_types.specs.declared.journals.Entry.{Entry}
use Rattle.mas_types.specs.declared.queues.Queue.{Queue}
use Rattle.mas_types.specs.Ids.{same_member}
use Rattle.mas_types.specs.Run.{run}
use Rattle.lock_cycle.specs.Books.{Book, is_stopped}
use Rattle.script_lang.specs.declared.types.Ask.{Ask}
use Rattle.script_lang.specs.declared.types.Ask.TheVariants as ask
use Rattle.script_lang.specs.declared.types.Step.{Step}
use Rattle.spool_plant.specs.View.{Line, View}
use Rattle.step_turns.specs.declared.states.Found.{Found}
use Rattle.run_turns.specs.Cuts.{Left, left_by}
use Rattle.run_turns.specs.Pieces.{Play}
use Rattle.run_turns.specs.Scenes.{Batched, kept_in}
use Rattle.run_turns.specs.Sights.{Cause, Cut, Ends, Stops}
use Rattle.run_turns.specs.Steps.{cause_of, stopped_lines}
use Rattle.race_turns.specs.Turns.{Stage, Opens, Closed, Turn, turn_at}

-- A turn as it was taken: what the plant showed before and after it; how many entries of the history stood before what
-- it kept; the book that it found, and how many lines its member had printed since it last took up an output or moved
-- its mark; what was found in acts aside, and how many lines a printer took that was lost in them; and where its member
-- was cut, if it was.
pub record Taken : Type 0 where
  pub old : View
  pub new : View
  pub place : ℕ
  pub book : Book
  pub count : ℕ
  pub found : Found
  pub inked : ℕ
  pub cut : Option Cut

-- the lines of a script that a member plays in turns, with their numbers
pub record Asked : Type 0 where
  pub number : ℕ
  pub what : Ask

abbrev pub is_raced : Ask → Bool
is_raced ask.Stop = false
is_raced (ask.StopIn fuse n) = false
is_raced (ask.Lose dev) = false
is_raced what = true

abbrev pub if_asked : Bool → Asked → List Asked → List Asked
if_asked true a more = a ∷ more
if_asked false a more = more

abbrev pub lines_of : MemberId → ℕ → List Step → List Asked
lines_of by at [] = []
lines_of by at (s ∷ steps) =
    if_asked (if same_member s.by by then is_raced s.what else false) (record { number = at; what = s.what })
    (lines_of by (at + 1) steps)

-- WHAT IS LEFT of a turn, as of a line that is played alone. The book isn't followed: each turn names the one that it
-- found.

abbrev pub play_at : Turn → Book → Queue → Play
play_at t b Q = record { sayer = t.sayer; pieces = t.pieces; book = b; locked = false; queue = Q; flight = None }

abbrev pub left_at : MemberId → ℕ → Option Cut → Turn → Book → Queue → Left
left_at by count cut t b Q = left_by by cut (play_at t b Q) count

-- what it has left: its batches, and its lines on the console
pub record Leaves : Type 0 where
  pub batches : List Batched
  pub lines : List Line

abbrev pub none : Leaves
none = record { batches = []; lines = [] }

abbrev pub then_left : Left → Leaves → Leaves
then_left l more = record { batches = l.batches ++ more.batches; lines = l.lines ++ more.lines }

-- the texts of those lines that are whole
abbrev pub whole_texts : List Line → List (List ℕ)
whole_texts lines = map (λ l. l.text) (filter (λ l. l.whole) lines)

abbrev pub is_stop : Cause → Bool
is_stop Stops = true
is_stop Ends = false

-- A LINE GOES ON, or the next one follows once it has closed. It has closed too where its member was stopped in it.

abbrev pub stage_left : Option Cut → Stage → Stage
stage_left None s = s
stage_left (Some cut) s = Closed

abbrev pub lines_after : Stage → List Asked → List Asked
lines_after Closed lines = drop 1 lines
lines_after s lines = lines

abbrev pub stage_then : Stage → Stage
stage_then Closed = Opens
stage_then s = s

-- the member was stopped in the turn
abbrev pub stops_in : Option Cut → Bool
stops_in None = false
stops_in (Some cut) = is_stop cut.cause

-- the run ends for the member in the turn
abbrev pub ends_in : Option Cut → Bool
ends_in None = false
ends_in (Some cut) = not (is_stop cut.cause)

-- the turns end there, or go on
abbrev pub unless_ended : Bool → Type 0 → Type 0 → Type 0
unless_ended true end more = end
unless_ended false end more = more

-- after the last turn no line is left, or the run has ended for the member
abbrev pub IsEnd : Bool → List Asked → Type 0
IsEnd ended [] = ended ≡ false
IsEnd ended (a ∷ lines) = ended ≡ true

-- where a member stands in its lines: at this stage of the first of them, after so many entries of the history, with so
-- many lines printed of its output, stopped or not
pub record Standing : Type 0 where
  pub lines : List Asked
  pub stage : Stage
  pub from : ℕ
  pub count : ℕ
  pub stopped : Bool

abbrev pub stands_then : Standing → Taken → Turn → Left → Standing
stands_then at t turn l =
    let stage = stage_left t.cut turn.next in
    record {
      lines = lines_after stage at.lines;
      stage = stage_then stage;
      from = t.place + length (kept_in l.batches);
      count = l.count;
      stopped = at.stopped || stops_in t.cut;
    }

module _ (base : Queue) (history : List Entry) (by : MemberId) where
  -- the queue that a turn found
  abbrev pub queue_at : ℕ → Queue
  queue_at place = run base (take place history)

  -- what a turn leaves, with the operator's line where the member was stopped in it
  abbrev pub turn_left : Asked → Taken → Turn → Left
  turn_left a t turn =
      let l = left_at by t.count t.cut turn t.book (queue_at t.place) in
      record l { lines = l.lines ++ map (λ s. s.line) (stopped_lines by a.number (cause_of t.cut)) }

  -- What is seen of a turn besides, at the queue and the stage of its line that it found.
  module _ (saw : Queue → Stage → Taken → Turn → Type 0) where
    -- A turn at the first of these lines. It finds the queue after all that was kept before it, and a book in which the
    -- member stands as it does; what it keeps stands there in the history.
    pub record IsTurn (at : Standing) (a : Asked) (t : Taken) (turn : Turn) (l : Left) : Type 0 where
      pub turn_is : turn ≡ turn_at (queue_at t.place) t.book by a.number a.what t.count t.inked t.found at.stage
      pub left : l ≡ turn_left a t turn
      pub later : at.from ≤ t.place
      pub stopped : is_stopped t.book by ≡ at.stopped
      pub printed : at.stopped ≡ false → t.count ≡ at.count
      pub kept : take (length (kept_in l.batches)) (drop t.place history) ≡ kept_in l.batches
      pub seen : saw (queue_at t.place) at.stage t turn

    -- THE TURNS of a member from where it stands on, and what they leave together. They end where no line is left, or
    -- where the run ended for the member, in its last turn or after it.
    module _ (ended : Bool) where
      abbrev pub TakesTurns : Standing → List Asked → List Taken → Leaves → Type 0
      TakesTurns at lines [] all = IsEnd ended lines × (all ≡ none)
      TakesTurns at [] (t ∷ ts) all = ⊥
      TakesTurns at (a ∷ lines) (t ∷ ts) all =
          (turn : Turn) × (l : Left) × (more : Leaves) × IsTurn at a t turn l × (all ≡ then_left l more)
          × unless_ended (ends_in t.cut) ((ended ≡ true) × (ts ≡ []) × (more ≡ none))
          (TakesTurns (stands_then at t turn l) (stands_then at t turn l).lines ts more)

-- the member was stopped in one of its turns
abbrev pub is_stopped_in : List Taken → Bool
is_stopped_in [] = false
is_stopped_in (t ∷ ts) = stops_in t.cut || is_stopped_in ts

-- a member that begins with its lines of a script, after so many entries of the history
abbrev pub begins : ℕ → MemberId → List Step → Standing
begins from by steps =
    record { lines = lines_of by 1 steps; stage = Opens; from = from; count = 0; stopped = false }

-- A member has raced through its lines of a script, which began after so many entries of the history, up to their end
-- or to where the run ended for it: these were its turns, and this is what it left.
pub record HasRaced (base : Queue) (history : List Entry) (by : MemberId)
    (saw : Queue → Stage → Taken → Turn → Type 0) (from : ℕ) (steps : List Step) (ended : Bool) (all : Leaves) : Type 0
  where
    pub turns : List Taken
    pub takes : TakesTurns base history by saw ended (begins from by steps) (lines_of by 1 steps) turns all
