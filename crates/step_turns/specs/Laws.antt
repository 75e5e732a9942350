-- What holds of every sitting, whatever queue it finds, and of every step.
use Rattle.std.specs.Prelude.{◌≡◌, ◌≢◌, ◌⊎◌, ℕ, suc, ◌+◌, ◌*◌, ◌≤◌, ◌<◌, Bool, true, false, List, [], ◌∷◌, length, All, Contains, Option, Some, None, Err}
use Rattle.mas_types.specs.declared.answers.Closing.{Closing}
use Rattle.mas_types.specs.declared.answers.Closing.TheVariants as closing
use Rattle.mas_types.specs.declared.commands.Reply.{Reply}
use Rattle.mas_types.specs.declared.ids.MemberId.{MemberId}
use Rattle.mas_types.specs.declared.ids.Name8.{Name8}
use Rattle.mas_types.specs.declared.journals.Entry.{Entry}
use Rattle.mas_types.specs.declared.queues.Queue.{Queue}
use Rattle.mas_types.specs.Closings.{closing_line, reply_lines}
use Rattle.card_reader.specs.declared.decks.Refused.{Refused}
use Rattle.card_reader.specs.Decks.{read_as}
use Rattle.job_outcome.specs.declared.outcomes.Read.TheVariants as read
use Rattle.nje_frames.specs.declared.frames.Frame.{Frame}
use Rattle.step_turns.specs.Batches.{AreWholeParts, batch_most}
use Rattle.step_turns.specs.Courses.{Course, Finds, course, course_of, frames_left, sittings, sittings_most, task_most}
use Rattle.step_turns.specs.Entries.{all_entries, closing_reply, commands_in, given_in}
use Rattle.step_turns.specs.LineCounts.{got_before, sent_before, sents_in}
use Rattle.step_turns.specs.Serving.{Arrival, frame_for, heard, taken_most}
use Rattle.step_turns.specs.Sittings.{Sitting, sit}
use Rattle.step_turns.specs.States.{Acknowledge, Aside, Away, ByLock, Deck, Exchange, ForStep, Found, Fresh, Give, Grant, Holder, Inner, Keep, Line, Outer, PrintLines, Progress, ReadText, Rested, SpoolArrival, SpoolDeck, SpoolOutputs, State, Task, Told, Work}
use Rattle.step_turns.specs.Turns.{turn}

-- what holds of each sitting
abbrev pub OfSittings : (Queue → Holder → State → Found → Sitting → Type 0) → Type 0
OfSittings holds = (Q : Queue) (h : Holder) (s : State) (found : Found) → holds Q h s found (sit Q h s found)

-- THE LOCK

-- A member that took the lock for its step gives it up at the end of each sitting: before the acts that the step waits
-- for, where its hold is spent between two units, and at the step's end.
pub record GivesUp (h : Holder) (t : Sitting) : Type 0 where
  pub inner : t.next ≢ Told → t.release ≡ Inner
  pub outer : t.next ≡ Told → t.release ≡ Outer

-- A lock that the operator took is never given up within a step: only at its end, and there only where the hold is
-- spent. No hold cuts the step.
pub record KeepsLock (h : Holder) (t : Sitting) : Type 0 where
  pub within : t.next ≢ Told → t.release ≡ Keep
  pub never_inner : t.release ≢ Inner
  pub spent : t.release ≡ Outer → (t.next ≡ Told) × (h.hold ≤ length (all_entries t.batches))
  pub no_rest : (p : Progress) → t.next ≢ Rested p

pub record HoldsRightly (h : Holder) (t : Sitting) : Type 0 where
  pub for_step : h.grant ≡ ForStep → GivesUp h t
  pub by_lock : h.grant ≡ ByLock → KeepsLock h t
  -- the lock is held in acts that the step waits for only where LOCK took it
  pub aside : (a : Aside) → t.next ≡ Away a → (t.release ≡ Inner) ⊎ (h.grant ≡ ByLock)
  -- the lock is given up between two units only where the hold is spent
  pub rest : (p : Progress) → t.next ≡ Rested p → h.hold ≤ length (all_entries t.batches)

abbrev pub LockIsHeldRightly : Type 0
LockIsHeldRightly = OfSittings (λ Q h s found t. HoldsRightly h t)

-- BATCHES

-- a batch has entries, and no more than a batch may have
abbrev pub IsBatch : List Entry → Type 0
IsBatch es = (1 ≤ length es) × (length es ≤ batch_most)

abbrev pub BatchesAreWithinLimits : Type 0
BatchesAreWithinLimits = OfSittings (λ Q h s found t. All IsBatch t.batches)

abbrev pub NoUnitIsSplit : Type 0
NoUnitIsSplit = OfSittings (λ Q h s found t. AreWholeParts (turn h Q s found).parts t.batches)

-- each entry is of the member and its step, with the reply that its command has at its place
abbrev pub AreGiven : Queue → MemberId → ℕ → List Entry → Type 0
AreGiven Q by at es = given_in Q by at (commands_in es) ≡ es

abbrev pub EntriesAreGiven : Type 0
EntriesAreGiven = OfSittings (λ Q h s found t. AreGiven Q h.by h.step (all_entries t.batches))

-- UNITS

-- How many units a state may still begin, or go on with, and how many are done. A deck and a command count as one. On a
-- line a Load counts as one, and a frame as two, since its job begins in one part and is got in another.
abbrev pub task_units : Task → ℕ
task_units (Give c) = 1
task_units (Deck fields text) = 1
task_units (Work n) = n
task_units (Line l) = 2 * taken_most + 1

abbrev pub aside_units : Aside → ℕ
aside_units (SpoolDeck n text) = 1
aside_units (ReadText runs n fields p) = suc p.left
aside_units (SpoolOutputs n specs p) = suc p.left
aside_units (PrintLines n i last p) = suc p.left
aside_units (Exchange l offer) = 2 * taken_most
aside_units (SpoolArrival number n text s) = frames_left s + 1
aside_units (Acknowledge number s) = frames_left s

abbrev pub aside_done : Aside → ℕ
aside_done (SpoolDeck n text) = 0
aside_done (ReadText runs n fields p) = p.done
aside_done (SpoolOutputs n specs p) = p.done
aside_done (PrintLines n i last p) = p.done
aside_done (Exchange l offer) = 0
aside_done (SpoolArrival number n text s) = 0
aside_done (Acknowledge number s) = 0

abbrev pub units_left : State → ℕ
units_left (Fresh task) = task_units task
units_left (Away aside) = aside_units aside
units_left (Rested p) = p.left
units_left Told = 0

abbrev pub units_done : State → ℕ
units_done (Fresh task) = 0
units_done (Away aside) = aside_done aside
units_done (Rested p) = p.done
units_done Told = 0

-- the step serves a line
abbrev pub task_on_line : Task → Bool
task_on_line (Line l) = true
task_on_line _ = false

abbrev pub aside_on_line : Aside → Bool
aside_on_line (Exchange l offer) = true
aside_on_line (SpoolArrival number n text s) = true
aside_on_line (Acknowledge number s) = true
aside_on_line _ = false

abbrev pub on_line : State → Bool
on_line (Fresh task) = task_on_line task
on_line (Away aside) = aside_on_line aside
on_line _ = false

-- as many units, or on a line, where fewer frames may come than could, not more
abbrev pub AsMany : Bool → ℕ → ℕ → Type 0
AsMany true after before = after ≤ before
AsMany false after before = after ≡ before

-- A sitting gives the parts of as many units as the step may still play, at most; and as many are done and left after
-- it as before it.
pub record PlaysUnits (s : State) (parts : List (List Entry)) (next : State) : Type 0 where
  pub few : length parts ≤ units_left s
  pub same : next ≢ Told → AsMany (on_line s) (units_done next + units_left next) (units_done s + units_left s)
  pub grows : next ≢ Told → units_done s ≤ units_done next

abbrev pub NoUnitAfterTheLast : Type 0
NoUnitAfterTheLast = OfSittings (λ Q h s found t. PlaysUnits s (turn h Q s found).parts t.next)

-- THE END

-- lines are said exactly where the step is told
abbrev pub LinesAreSaidAtTheEnd : Type 0
LinesAreSaidAtTheEnd =
    OfSittings (λ Q h s found t. (s ≢ Told → t.next ≡ Told → 1 ≤ length t.lines) × (t.next ≢ Told → t.lines ≡ []))

-- the lines of a closing: a reply of a display has its lines before
abbrev pub lines_of : MemberId → ℕ → Closing → List (List ℕ)
lines_of by at (closing.Reply answer) = reply_lines by at answer
lines_of by at end = closing_line by at end ∷ []

-- the reply to the last of these commands that isn't Drop, or to the only one
abbrev pub IsReplyOf : List Entry → Reply → Type 0
IsReplyOf es r = (r ≡ closing_reply es) ⊎ ((e : Entry) × (es ≡ e ∷ []) × (r ≡ e.reply))

-- the frames that a sitting may handle
abbrev pub frames_at : State → Found → List Frame
frames_at (Away (Exchange l offer)) found = heard found
frames_at (Away (Acknowledge number s)) found = s.frames
frames_at s found = []

-- a job came whose cards are refused so at this node
pub record HasBadCards (node : Name8) (frames : List Frame) (bad : Refused) : Type 0 where
  pub arrival : Arrival
  pub came : Contains frames (frame_for arrival)
  pub refused : read_as node arrival.text ≡ Err bad

-- the line that a step serves
abbrev pub line_at : State → Option ℕ
line_at (Away (Exchange l offer)) = Some l
line_at (Away (Acknowledge number s)) = Some s.line
line_at s = None

-- Why a step closes so from a state: as its last command was answered; with the units that are done; by a text that is
-- gone, a volume, a printer or a line that is lost, as its member found; by the cards of a job that came; or with the
-- jobs that left and came over its line.
abbrev pub IsCaused : Name8 → State → Found → List Entry → Closing → Type 0
IsCaused node s found es (closing.Reply answer) = IsReplyOf es answer
IsCaused node s found es (closing.DoneUnits n) = n ≤ units_done s + units_left s
IsCaused node s found es (closing.SpoolLost volume) = (found.lost ≡ Some volume) ⊎ (found.read ≡ read.Lost volume)
IsCaused node s found es (closing.NoText group) = found.read ≡ read.Gone group
IsCaused node s found es closing.PrinterLost = found.printer ≡ true
IsCaused node s found es (closing.LineLost line) = (found.wire ≡ true) × (line_at s ≡ Some line)
IsCaused node s found es (closing.BadCard card cause) =
    HasBadCards node (frames_at s found) (record { card = card; cause = cause })
IsCaused node s found es (closing.Line sent got) = (sent ≡ sent_before s + sents_in es) × (got ≡ got_before s)
IsCaused node s found es _ = ⊥

abbrev pub LinesAreCaused : Type 0
LinesAreCaused = OfSittings (λ Q h s found t. s ≢ Told → t.next ≡ Told
    → (end : Closing) × IsCaused Q.config.node s found (all_entries t.batches) end
    × (t.lines ≡ lines_of h.by h.step end))

-- each sitting of a step that isn't told leaves fewer that may follow
abbrev pub StepsEnd : Type 0
StepsEnd = OfSittings (λ Q h s found t. s ≢ Told → sittings_most t.next < sittings_most s)

-- as many sittings as a task may have give the whole step; more of them add nothing
abbrev pub CoursesEnd : Type 0
CoursesEnd = (finds : Finds) (Q : Queue) (h : Holder) (task : Task) (more : ℕ)
    → course_of (sittings (task_most task + more) finds Q h (Fresh task)) ≡ course finds Q h task

-- WHATEVER HOLD a member has, and however it came to the lock, a step gives the same entries and closes with the same
-- lines: a hold and LOCK change only how the entries are cut into batches

abbrev pub all_given : Course → List Entry × List (List ℕ)
all_given c = (all_entries c.batches, c.lines)

abbrev pub HoldsChangeNoEntry : Type 0
HoldsChangeNoEntry = (finds : Finds) (Q : Queue) (h : Holder) (task : Task) (hold : ℕ) (grant : Grant)
    → all_given (course finds Q (record h { hold = hold; grant = grant }) task) ≡ all_given (course finds Q h task)
