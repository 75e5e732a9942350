-- A step from its first sitting to its last, over a queue that nobody else changes.
use Rattle.std.specs.Prelude.{ℕ, zero, suc, ◌+◌, ◌-◌, ◌*◌, List, [], ◌∷◌, ◌++◌, length}
use Rattle.mas_types.specs.declared.journals.Entry.{Entry}
use Rattle.mas_types.specs.declared.queues.Queue.{Queue}
use Rattle.mas_types.specs.Run.{run}
use Rattle.step_turns.specs.Entries.{all_entries}
use Rattle.step_turns.specs.Sittings.{Sitting, sit}
use Rattle.step_turns.specs.Serving.{taken_most}
use Rattle.step_turns.specs.States.{Acknowledge, Aside, Away, ByLock, Deck, Exchange, ForStep, Found, Fresh, Give, Grant, Holder, Line, PrintLines, ReadText, Rested, Service, SpoolArrival, SpoolDeck, SpoolOutputs, State, Task, Told, Work}

-- THE MEASURE: how many sittings a step may still have

-- a frame has two sittings at most: its job begins in one, and is got in another
abbrev pub frames_left : Service → ℕ
frames_left s = 2 * length s.frames

abbrev pub task_most : Task → ℕ
task_most (Give c) = 1
task_most (Deck fields text) = 2
task_most (Work n) = 3 * n + 1
task_most (Line l) = 2 * taken_most + 2

abbrev pub aside_most : Aside → ℕ
aside_most (SpoolDeck n text) = 1
aside_most (ReadText runs n fields p) = 3 * p.left + 3
aside_most (SpoolOutputs n specs p) = 3 * p.left + 2
aside_most (PrintLines n i last p) = 3 * p.left + 2
aside_most (Exchange l offer) = 2 * taken_most + 1
aside_most (SpoolArrival number n text s) = frames_left s + 2
aside_most (Acknowledge number s) = frames_left s + 1

abbrev pub sittings_most : State → ℕ
sittings_most (Fresh task) = task_most task
sittings_most (Away aside) = aside_most aside
sittings_most (Rested p) = 3 * p.left + 1
sittings_most Told = 0

-- ONE SITTING AFTER ANOTHER

-- what is left of a hold after so many commands: the next grant brings a whole one, and the operator's LOCK goes on
abbrev pub hold_then : Grant → ℕ → ℕ → ℕ → ℕ
hold_then ForStep whole hold given = whole
hold_then ByLock whole hold given = hold - given

abbrev pub holder_then : Queue → Holder → List Entry → Holder
holder_then Q h es = record h { hold = hold_then h.grant Q.config.hold h.hold (length es) }

-- What the acts find that a step waits for, by the queue at which it does and its state.
abbrev pub Finds : Type 0
Finds = Queue → State → Found

-- so many sittings one after another, each at the queue that the one before left; those after the step's end are empty
abbrev pub sittings : ℕ → Finds → Queue → Holder → State → List Sitting
sittings zero finds Q h s = []
sittings (suc more) finds Q h s =
    let t = sit Q h s (finds Q s) in
    let es = all_entries t.batches in
    t ∷ sittings more finds (run Q es) (holder_then Q h es) t.next

abbrev pub all_batches : List Sitting → List (List Entry)
all_batches [] = []
all_batches (t ∷ ts) = t.batches ++ all_batches ts

abbrev pub all_lines : List Sitting → List (List ℕ)
all_lines [] = []
all_lines (t ∷ ts) = t.lines ++ all_lines ts

-- a whole step: the batches that it gives, and the lines with which it closes
pub record Course : Type 0 where
  pub batches : List (List Entry)
  pub lines : List (List ℕ)

abbrev pub course_of : List Sitting → Course
course_of ts = record { batches = all_batches ts; lines = all_lines ts }

abbrev pub course : Finds → Queue → Holder → Task → Course
course finds Q h task = course_of (sittings (task_most task) finds Q h (Fresh task))
