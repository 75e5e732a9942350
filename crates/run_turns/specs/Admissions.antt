-- What a line is tested for before its commands, in this order: whether its member is one, whether it was stopped, what
-- its deck or its reset says, and whether its member gets the lock.
use Rattle.std.specs.Prelude.{ℕ, false, not, if◌then◌else◌, List, Option, Some, None, Result, Ok, Err}
use Rattle.mas_types.specs.declared.answers.Closing.{Closing}
use Rattle.mas_types.specs.declared.answers.Closing.TheVariants as closing
use Rattle.mas_types.specs.declared.commands.Command.{Command}
use Rattle.mas_types.specs.declared.commands.Command.TheVariants as command
use Rattle.mas_types.specs.declared.commands.Refusal.TheVariants as refusal
use Rattle.mas_types.specs.declared.commands.Reply.TheVariants as reply
use Rattle.mas_types.specs.declared.ids.Dev.{Dev}
use Rattle.mas_types.specs.declared.ids.MemberId.{MemberId}
use Rattle.mas_types.specs.declared.jobs.JobFields.{JobFields}
use Rattle.mas_types.specs.declared.queues.Config.{Config}
use Rattle.mas_types.specs.Ids.{nobody}
use Rattle.mas_types.specs.Queue.{is_member}
use Rattle.card_reader.specs.declared.decks.Refused.{Refused as BadCard}
use Rattle.card_reader.specs.Decks.{read_as, text_of}
use Rattle.lock_cycle.specs.declared.answers.LockNo.{LockNo}
use Rattle.lock_cycle.specs.declared.answers.LockNo.TheVariants as lock
use Rattle.lock_cycle.specs.Books.{Book, after_seize, after_try, is_holder, is_stopped, try_refusal}
use Rattle.script_lang.specs.declared.types.Ask.{Ask}
use Rattle.script_lang.specs.declared.types.Ask.TheVariants as ask
use Rattle.step_turns.specs.declared.states.Task.{Task}
use Rattle.step_turns.specs.declared.states.Task.TheVariants.{Deck, Give, Line, Work}
use Rattle.step_turns.specs.declared.states.Grant.{Grant}
use Rattle.step_turns.specs.declared.states.Grant.TheVariants.{ByLock, ForStep}

-- What becomes of a line: it closes so before any try, and this member says it; or its member doesn't get the lock.
-- Else it has the lock, and plays a task, or resets a member, or replaces a copy; it takes the lock of a stopped
-- holder, and resets that; or it keeps the lock, or gives it up. A line of another kind isn't played.
pub data Admission : Type 0 where
  Refused : MemberId → Closing → Admission
  Denied : LockNo → Admission
  Plays : Task → Admission
  Resets : MemberId → Admission
  Replaces : Dev → Admission
  TakesOver : MemberId → Admission
  Locks : Admission
  Frees : Admission
  Unplayed : Admission

abbrev pub no_member : Closing
no_member = closing.Reply (reply.No refusal.NoMember)

-- the lock is tried for
abbrev pub if_granted : Option LockNo → Admission → Admission
if_granted None then_so = then_so
if_granted (Some why) then_so = Denied why

abbrev pub tries : Book → MemberId → Admission → Admission
tries b by then_so = if_granted (try_refusal b by false) then_so

-- a deck that says this of its job
abbrev pub deck_admitted : Book → MemberId → List (List ℕ) → Result JobFields BadCard → Admission
deck_admitted b by text (Err bad) = Refused by (closing.BadCard bad.card bad.cause)
deck_admitted b by text (Ok fields) = tries b by (Plays (Deck fields text))

-- a member is reset only if it is one and is stopped; the lock of one that holds it is taken over
abbrev pub reset_admitted : Config → Book → MemberId → MemberId → Admission
reset_admitted config b by of =
    if not (is_member config of) then Refused by no_member
    else if not (is_stopped b of) then Refused by (closing.Up of)
    else if is_holder b of then TakesOver of
    else tries b by (Resets of)

-- the member that a command is to reset
abbrev pub resets : Command → Option MemberId
resets (command.Reset of) = Some of
resets _ = None

abbrev pub command_admitted : Config → Book → MemberId → Command → Option MemberId → Admission
command_admitted config b by c None = tries b by (Plays (Give c))
command_admitted config b by c (Some of) = reset_admitted config b by of

-- the lock is given up by its holder alone, and without a try
abbrev pub free_admitted : Book → MemberId → Admission
free_admitted b by = if is_holder b by then Frees else Refused by closing.NotHolder

-- a line of a member that is up
abbrev pub asked : Config → Book → MemberId → Ask → Admission
asked config b by (ask.Deck cards) = deck_admitted b by (text_of cards) (read_as config.node cards)
asked config b by (ask.Command c) = command_admitted config b by c (resets c)
asked config b by (ask.Work n) = tries b by (Plays (Work n))
asked config b by (ask.Line l) = tries b by (Plays (Line l))
asked config b by ask.Lock = tries b by Locks
asked config b by ask.Free = free_admitted b by
asked config b by (ask.Replace dev) = tries b by (Replaces dev)
asked config b by _ = Unplayed

abbrev pub admitted : Config → Book → MemberId → Ask → Admission
admitted config b by what =
    if not (is_member config by) then Refused nobody no_member
    else if is_stopped b by then Refused nobody closing.Down
    else asked config b by what

-- THE LOCK

-- the book once the lock was tried for, or taken over
abbrev pub tried : Book → MemberId → Admission → Book
tried b by (Refused sayer end) = b
tried b by (TakesOver of) = after_seize b by of
tried b by Frees = b
tried b by Unplayed = b
tried b by _ = after_try b by false

-- a holder has it by LOCK: no step leaves its member the lock in any other way
abbrev pub granted_by : Book → MemberId → Grant
granted_by b by = if is_holder b by then ByLock else ForStep

-- how a line closes whose member doesn't get the lock
abbrev pub denied_closing : LockNo → Closing
denied_closing lock.Down = closing.Down
denied_closing (lock.Busy holder) = closing.Busy holder
denied_closing (lock.Dormant tick) = closing.Dormant tick
