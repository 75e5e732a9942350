-- What holds of every line, at every scene, and of every run.
use Rattle.std.specs.Prelude.{◌≡◌, ◌≢◌, ◌↔◌, ◌⊎◌, ℕ, ◌-◌, ◌≤◌, ◌<◌, Bool, true, false, not, ◌&&◌, List, [], ◌++◌, length, map, Option, Some, None, Result, Ok, Err}
use Rattle.mas_types.specs.declared.answers.Closing.TheVariants as closing
use Rattle.mas_types.specs.declared.commands.Command.{Command}
use Rattle.mas_types.specs.declared.commands.Command.TheVariants as command
use Rattle.mas_types.specs.declared.ids.MemberId.{MemberId}
use Rattle.mas_types.specs.declared.jobs.JobFields.{JobFields}
use Rattle.mas_types.specs.declared.journals.Entry.{Entry}
use Rattle.mas_types.specs.declared.queues.Config.{Config}
use Rattle.mas_types.specs.declared.queues.Queue.{Queue}
use Rattle.mas_types.specs.Ids.{is_somebody, nobody}
use Rattle.mas_types.specs.Queue.{is_member}
use Rattle.mas_types.specs.Run.{run}
use Rattle.card_reader.specs.declared.decks.Refused.{Refused as BadCard}
use Rattle.card_reader.specs.Decks.{read_as}
use Rattle.lock_cycle.specs.declared.answers.LockNo.{LockNo}
use Rattle.lock_cycle.specs.Books.{Book, IsMember, after_stop, is_holder, is_stopped, left_of, try_refusal}
use Rattle.script_lang.specs.declared.types.Ask.{Ask}
use Rattle.script_lang.specs.declared.types.Ask.TheVariants as ask
use Rattle.script_lang.specs.declared.types.Step.{Step}
use Rattle.spool_plant.specs.declared.plant.Fuse.{Fuse}
use Rattle.step_turns.specs.Courses.{Course, course}
use Rattle.step_turns.specs.Entries.{all_entries}
use Rattle.step_turns.specs.declared.states.Task.{Task}
use Rattle.step_turns.specs.declared.states.Task.TheVariants.{Give}
use Rattle.step_turns.specs.declared.states.Grant.TheVariants.{ForStep}
use Rattle.step_turns.specs.declared.states.Holder.{Holder}
use Rattle.run_turns.specs.Sights.{Cut, Halt, Saying, Sight, Stops, Waiting, Writing}
use Rattle.run_turns.specs.Scenes.{Scene, flying_in, kept_in, scene_of}
use Rattle.run_turns.specs.Admissions.{Admission, Denied, Frees, Locks, Plays, Refused, Resets, TakesOver, admitted, no_member, resets}
use Rattle.run_turns.specs.Cuts.{Left, entries_of, kept_all, left_by, whole}
use Rattle.run_turns.specs.Pieces.{play_of, sayer_of}
use Rattle.run_turns.specs.Steps.{Played, arm, is_up, played, played_as, said_by, silent, stop}
use Rattle.run_turns.specs.Runs.{history, outcomes_of, scene_after}

-- WHY A LINE CLOSES BEFORE ITS COMMANDS

-- a member of the configuration that isn't stopped
pub record IsUp (config : Config) (b : Book) (m : MemberId) : Type 0 where
  pub member : is_member config m ≡ true
  pub up : is_stopped b m ≡ false

-- a line is refused as one of no member exactly where its member is above the configured ones
abbrev pub NoSuchMember : Type 0
NoSuchMember = (config : Config) (b : Book) (by : MemberId) (what : Ask)
    → (admitted config b by what ≡ Refused nobody no_member) ↔ (is_member config by ≡ false)

-- a line is refused with Down exactly where its member is a configured one, and was stopped before
abbrev pub DownIfStopped : Type 0
DownIfStopped = (config : Config) (b : Book) (by : MemberId) (what : Ask)
    → (admitted config b by what ≡ Refused nobody closing.Down) ↔
    ((is_member config by ≡ true) × (is_stopped b by ≡ true))

-- of a reset by a member that is up: exactly where the other member is above the configured ones; or is one and isn't
-- stopped
abbrev pub NoSuchReset : Type 0
NoSuchReset = (config : Config) (b : Book) (by of : MemberId) → IsUp config b by
    → (admitted config b by (ask.Command (command.Reset of)) ≡ Refused by no_member) ↔ (is_member config of ≡ false)

abbrev pub UpIsNotReset : Type 0
UpIsNotReset = (config : Config) (b : Book) (by of : MemberId) → IsUp config b by
    → (admitted config b by (ask.Command (command.Reset of)) ≡ Refused by (closing.Up of)) ↔
    ((is_member config of ≡ true) × (is_stopped b of ≡ false))

-- the lock is taken over exactly from a stopped holder
abbrev pub HolderIsTakenOver : Type 0
HolderIsTakenOver = (config : Config) (b : Book) (by of : MemberId) → IsUp config b by
    → (admitted config b by (ask.Command (command.Reset of)) ≡ TakesOver of) ↔
    ((is_member config of ≡ true) × (is_stopped b of ≡ true) × (is_holder b of ≡ true))

-- no line resets a member that is up, as a command or in another way
abbrev pub OnlyStoppedAreReset : Type 0
OnlyStoppedAreReset = (config : Config) (b : Book) (by : MemberId) (what : Ask)
    → ((of : MemberId) → (admitted config b by what ≡ Resets of) ⊎ (admitted config b by what ≡ TakesOver of)
    → is_stopped b of ≡ true)
    × ((c : Command) → admitted config b by what ≡ Plays (Give c) → resets c ≡ None)

-- the lock is given up by its holder alone
abbrev pub OnlyHoldersFree : Type 0
OnlyHoldersFree = (config : Config) (b : Book) (by : MemberId) → IsUp config b by
    → ((admitted config b by ask.Free ≡ Refused by closing.NotHolder) ↔ (is_holder b by ≡ false))
    × ((admitted config b by ask.Free ≡ Frees) ↔ (is_holder b by ≡ true))

-- A line of a member that is up comes to its try of the lock: a deck whose cards are right, a command, also the reset
-- of a stopped member that doesn't hold, work, a line that is served, LOCK, and the replacement of a copy.
abbrev pub deck_tries : Result JobFields BadCard → Bool
deck_tries (Err bad) = false
deck_tries (Ok fields) = true

abbrev pub command_tries : Config → Book → Option MemberId → Bool
command_tries config b None = true
command_tries config b (Some of) = is_member config of && (is_stopped b of && not (is_holder b of))

abbrev pub tries_lock : Config → Book → Ask → Bool
tries_lock config b (ask.Deck cards) = deck_tries (read_as config.node cards)
tries_lock config b (ask.Command c) = command_tries config b (resets c)
tries_lock config b (ask.Work n) = true
tries_lock config b (ask.Line l) = true
tries_lock config b ask.Lock = true
tries_lock config b (ask.Replace dev) = true
tries_lock config b _ = false

-- BUSY and DORMANT come exactly as the book says, to a line that comes to its try of the lock
abbrev pub DeniedByTheBook : Type 0
DeniedByTheBook = (config : Config) (b : Book) (by : MemberId) (what : Ask) (why : LockNo) → IsUp config b by
    → (admitted config b by what ≡ Denied why) ↔
    ((tries_lock config b what ≡ true) × (try_refusal b by false ≡ Some why))

-- who says a line: its member, and the operator for one that is none or was stopped before
abbrev pub SayersAreRight : Type 0
SayersAreRight = (config : Config) (b : Book) (by : MemberId) (what : Ask)
    → (IsUp config b by → sayer_of by (admitted config b by what) ≡ by)
    × ((is_member config by ≡ false) ⊎ (is_stopped b by ≡ true) → sayer_of by (admitted config b by what) ≡ nobody)

-- STOPS

-- a stop of a member that is none, or that is stopped, does nothing, nor is one armed at it
abbrev pub NoStopOfTheStopped : Type 0
NoStopOfTheStopped = (S : Scene) (m : MemberId) → is_up S m ≡ false
    → (stop S m ≡ silent S) × ((what : Fuse) (n : ℕ) → arm S m what n ≡ silent S)

-- any other is stopped in the book, and nothing else changes
abbrev pub StopsAreNoted : Type 0
StopsAreNoted = (S : Scene) (m : MemberId) → is_up S m ≡ true
    → stop S m ≡ silent (record S { book = after_stop S.book m })

-- whatever a line of a stopped member asks for, it gives no batch, prints nothing, gives no bytes to another node, and
-- leaves the queue
pub record PlaysNothing (S : Scene) (p : Played) : Type 0 where
  pub batches : p.outcome.batches ≡ []
  pub printed : p.outcome.printed ≡ []
  pub given : p.outcome.given ≡ []
  pub queue : p.next.queue ≡ S.queue
  pub flight : p.next.flight ≡ S.flight

abbrev pub StoppedPlayNothing : Type 0
StoppedPlayNothing = (S : Scene) (at : ℕ) (sight : Sight) (step : Step) → is_stopped S.book step.by ≡ true
    → PlaysNothing S (played S at sight step)

-- THE HISTORY

-- After the lines of a run the queue is that of the kept batches of its history, and a batch in flight is its last.
pub record IsOfHistory (Q : Queue) (sights : List Sight) (steps : List Step) (S : Scene) : Type 0 where
  pub queue : S.queue ≡ run Q (kept_in (history (outcomes_of Q sights steps)))
  pub flight : S.flight ≡ flying_in (history (outcomes_of Q sights steps))

abbrev pub QueuesAreOfHistory : Type 0
QueuesAreOfHistory = (Q : Queue) (sights : List Sight) (steps : List Step)
    → IsOfHistory Q sights steps (scene_after (scene_of Q) 1 sights steps)

-- STEPS WITHOUT A CUT

-- a line of a member that takes the lock for it: nobody holds, nothing is in flight, and nothing cuts the step
pub record IsAlone (S : Scene) (by : MemberId) (sight : Sight) : Type 0 where
  pub member : IsMember S.book by
  pub up : is_stopped S.book by ≡ false
  pub holder : S.book.holder ≡ nobody
  pub granted : try_refusal S.book by false ≡ None
  pub flight : S.flight ≡ None
  pub uncut : sight.cut ≡ None

abbrev pub holds_whole : Scene → MemberId → ℕ → Holder
holds_whole S by at = record { by = by; step = at; hold = S.book.hold; grant = ForStep }

-- A step gives what its sittings give one after another, as a whole: its batches are kept, its lines are said, and the
-- lock is nobody's again.
pub record IsCourse (S : Scene) (by : MemberId) (c : Course) (p : Played) : Type 0 where
  pub batches : p.outcome.batches ≡ kept_all c.batches
  pub said : p.outcome.said ≡ map (said_by by) (map whole c.lines)
  pub queue : p.next.queue ≡ run S.queue (all_entries c.batches)
  pub holder : p.next.book.holder ≡ nobody
  pub up : is_stopped p.next.book by ≡ false
  pub flight : p.next.flight ≡ None
  pub goes_on : p.goes_on ≡ true

abbrev pub StepsAreCourses : Type 0
StepsAreCourses = (S : Scene) (by : MemberId) (at : ℕ) (sight : Sight) (task : Task) → IsAlone S by sight
    → IsCourse S by (course sight.finds S.queue (holds_whole S by at) task) (played_as S by at sight (Plays task))

-- LOCK FROM ONE LINE TO ANOTHER

-- a line of another member leaves the lock with its holder, unless it takes it over from a stopped one
abbrev pub OthersLeaveTheLock : Type 0
OthersLeaveTheLock = (S : Scene) (by : MemberId) (at : ℕ) (sight : Sight) (what : Ask) → IsUp S.queue.config S.book by
    → is_somebody S.book.holder ≡ true → is_holder S.book by ≡ false
    → ((of : MemberId) → admitted S.queue.config S.book by what ≢ TakesOver of)
    → (played_as S by at sight (admitted S.queue.config S.book by what)).next.book.holder ≡ S.book.holder

-- a line of a member that holds by LOCK, of whose hold something is left, while nothing is in flight and where nothing
-- cuts it
pub record HasLock (S : Scene) (by : MemberId) (sight : Sight) : Type 0 where
  pub member : IsMember S.book by
  pub up : is_stopped S.book by ≡ false
  pub holder : S.book.holder ≡ by
  pub some : 1 ≤ left_of S.book by
  pub flight : S.flight ≡ None
  pub uncut : sight.cut ≡ None

-- Each entry of a line of the lock's holder spends one of the hold. The member holds on while some of it is left, and
-- nobody does after the line that spent the last.
pub record SpendsHold (S : Scene) (by : MemberId) (p : Played) : Type 0 where
  pub up : is_stopped p.next.book by ≡ false
  pub left : left_of p.next.book by ≡ left_of S.book by - length (entries_of p.outcome.batches)
  pub holds : 1 ≤ left_of p.next.book by → p.next.book.holder ≡ by
  pub gives_up : left_of p.next.book by ≡ 0 → p.next.book.holder ≡ nobody

abbrev pub HoldsAreSpent : Type 0
HoldsAreSpent = (S : Scene) (by : MemberId) (at : ℕ) (sight : Sight) (task : Task) → HasLock S by sight
    → SpendsHold S by (played_as S by at sight (Plays task))

-- FREE gives the lock up, LOCK keeps it
abbrev pub FreeGivesUp : Type 0
FreeGivesUp = (S : Scene) (by : MemberId) (at : ℕ) (sight : Sight) → HasLock S by sight
    → (played_as S by at sight Frees).next.book.holder ≡ nobody

abbrev pub LockKeeps : Type 0
LockKeeps = (S : Scene) (by : MemberId) (at : ℕ) (sight : Sight) → IsAlone S by sight
    → ((played_as S by at sight Locks).next.book.holder ≡ by)
    × (left_of (played_as S by at sight Locks).next.book by ≡ S.book.hold)

-- WHAT IS SAID IS KEPT: where a line of the step stands, even a torn one, all of its batches are kept, as if nothing
-- had cut it

abbrev pub left_at : Scene → MemberId → ℕ → Sight → Option Cut → Admission → Left
left_at S by at sight cut a = left_by by cut (play_of S by at sight a) (S.counts by)

abbrev pub SaidIsKept : Type 0
SaidIsKept = (S : Scene) (by : MemberId) (at : ℕ) (sight : Sight) (a : Admission)
    → (left_at S by at sight sight.cut a).lines ≢ []
    → (left_at S by at sight sight.cut a).batches ≡ (left_at S by at sight None a).batches

-- WHO STOPS in a step that took the lock: at its batches and its lines it holds; in the acts that follow a sitting
-- nobody does

pub record IsGranted (S : Scene) (by : MemberId) : Type 0 where
  pub member : IsMember S.book by
  pub up : is_stopped S.book by ≡ false
  pub holder : S.book.holder ≡ nobody
  pub granted : try_refusal S.book by false ≡ None
  pub flight : S.flight ≡ None

abbrev pub StopsWhere : Halt → MemberId → Book → Type 0
StopsWhere (Writing n b) by book = book.holder ≡ by
StopsWhere (Saying n tail) by book = book.holder ≡ by
StopsWhere (Waiting n tail) by book = book.holder ≡ nobody

abbrev pub StoppedHolders : Type 0
StoppedHolders = (S : Scene) (by : MemberId) (at : ℕ) (sight : Sight) (task : Task) (cut : Cut) → IsGranted S by
    → sight.cut ≡ Some cut → cut.cause ≡ Stops
    → cut.sittings < length (play_of S by at sight (Plays task)).pieces
    → let p = played_as S by at sight (Plays task) in (is_stopped p.next.book by ≡ true)
    × StopsWhere cut.halt by p.next.book

-- WHAT A CUT STEP GIVES are the first ones of the entries that it would have given

pub record IsFirst (es fs : List Entry) : Type 0 where
  pub rest : List Entry
  pub are : es ++ rest ≡ fs

abbrev pub CutsGiveFirst : Type 0
CutsGiveFirst = (S : Scene) (by : MemberId) (at : ℕ) (sight : Sight) (a : Admission)
    → IsFirst (entries_of (left_at S by at sight sight.cut a).batches)
    (entries_of (left_at S by at sight None a).batches)

-- and the first of the bytes that it would have given over a line

pub record AreFirstBytes (bytes whole_bytes : List ℕ) : Type 0 where
  pub rest : List ℕ
  pub are : bytes ++ rest ≡ whole_bytes

abbrev pub CutsGiveFirstBytes : Type 0
CutsGiveFirstBytes = (S : Scene) (by : MemberId) (at : ℕ) (sight : Sight) (a : Admission)
    → AreFirstBytes (left_at S by at sight sight.cut a).given (left_at S by at sight None a).given
