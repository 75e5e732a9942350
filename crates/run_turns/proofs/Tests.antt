-- What a line is tested for: each closing before its commands, exactly where its cause holds.
use Rattle.std.proofs.Common.{◌≡◌, ◌≢◌, ◌⊎◌, ⊎_elim, Bool, true, false, not, ◌&&◌, if◌then◌else◌, List, ℕ, Option, Some, None, Result, Ok, Err, refl, sym, subst}
use Rattle.mas_types.specs.declared.answers.Closing.{Closing}
use Rattle.mas_types.specs.declared.answers.Closing.TheVariants as closing
use Rattle.mas_types.specs.declared.commands.Command.{Command}
use Rattle.mas_types.specs.declared.commands.Command.TheVariants as command
use Rattle.mas_types.specs.declared.ids.Dev.{Dev}
use Rattle.mas_types.specs.declared.ids.MemberId.{MemberId}
use Rattle.mas_types.specs.declared.jobs.JobFields.{JobFields}
use Rattle.mas_types.specs.declared.queues.Config.{Config}
use Rattle.mas_types.specs.Ids.{nobody}
use Rattle.mas_types.specs.Queue.{is_member}
use Rattle.card_reader.specs.declared.decks.Refused.{Refused as BadCard}
use Rattle.card_reader.specs.Decks.{read_as, text_of}
use Rattle.lock_cycle.specs.declared.answers.LockNo.{LockNo}
use Rattle.lock_cycle.specs.Books.{Book, is_holder, is_stopped, try_refusal}
use Rattle.script_lang.specs.declared.types.Ask.{Ask}
use Rattle.script_lang.specs.declared.types.Ask.TheVariants as ask
use Rattle.step_turns.specs.declared.states.Task.{Task}
use Rattle.step_turns.specs.declared.states.Task.TheVariants.{Deck, Give, Line, Work}
use Rattle.run_turns.specs.Admissions.{Admission, Denied, Frees, Locks, Plays, Refused, Replaces, Resets, TakesOver, Unplayed, admitted, asked, command_admitted, deck_admitted, if_granted, no_member, resets}
use Rattle.run_turns.specs.Laws.{DeniedByTheBook, DownIfStopped, HolderIsTakenOver, IsUp, NoSuchMember, NoSuchReset, OnlyHoldersFree, OnlyStoppedAreReset, SayersAreRight, UpIsNotReset, command_tries, deck_tries, tries_lock}
use Rattle.run_turns.specs.Pieces.{sayer_of}

-- THE TESTS AS TABLES

-- an admission by whether the line's member is one, and was stopped
abbrev pub admitted_as : Bool → Bool → Admission → Admission
admitted_as m s a = if not m then Refused nobody no_member else if s then Refused nobody closing.Down else a

module _ (b : Book) (by : MemberId) where
  -- an admission of a reset by whether the member to be reset is one, was stopped and holds
  abbrev pub reset_as : MemberId → Bool → Bool → Bool → Admission
  reset_as of m s h =
      if not m then Refused by no_member
      else if not s then Refused by (closing.Up of)
      else if h then TakesOver of
      else if_granted (try_refusal b by false) (Resets of)

  abbrev free_as : Bool → Admission
  free_as h = if h then Frees else Refused by closing.NotHolder

-- nobody is a member
pub not_nobody : (config : Config) (m : MemberId) → is_member config m ≡ true → nobody ≢ m
not_nobody config m is same = let none : is_member config nobody ≡ true = subst (λ (k : MemberId). is_member config k ≡ true) (sym same) is in absurd (cc)

-- WHAT AN ADMISSION IS

-- the admission isn't a refusal said by another than this member, nor a task that resets, nor the reset of a member
-- that isn't stopped
record Asked (b : Book) (by : MemberId) (tries : Bool) (a : Admission) : Type 0 where
  sayer : (m : MemberId) (end : Closing) → a ≡ Refused m end → m ≡ by
  says : sayer_of by a ≡ by
  only : (of : MemberId) → (a ≡ Resets of) ⊎ (a ≡ TakesOver of) → is_stopped b of ≡ true
  gives : (c : Command) → a ≡ Plays (Give c) → resets c ≡ None
  denied : (why : LockNo) → a ≡ Denied why → (tries ≡ true) × (try_refusal b by false ≡ Some why)
  denies : (why : LockNo) → tries ≡ true → try_refusal b by false ≡ Some why → a ≡ Denied why

module _ (b : Book) (by : MemberId) where
  refused : (end : Closing) → Asked b by false (Refused by end)
  refused end = record {
    sayer = λ m other e. cc;
    says = refl;
    only = λ of. ⊎_elim (λ e. absurd (cc)) (λ e. absurd (cc));
    gives = λ c e. absurd (cc);
    denied = λ why e. absurd (cc);
    denies = λ why t e. absurd (cc);
  }

  -- a task by the answer to a try
  played_if : (task : Task) → ((c : Command) → task ≡ Give c → resets c ≡ None) → (r : Option LockNo) → r ≡ try_refusal b by false → Asked b by true (if_granted r (Plays task))
  played_if task none None is = record {
    sayer = λ m end e. absurd (cc);
    says = refl;
    only = λ of. ⊎_elim (λ e. absurd (cc)) (λ e. absurd (cc));
    gives = λ c e. none c (cc);
    denied = λ why e. absurd (cc);
    denies = λ why t e. absurd (cc);
  }
  played_if task none (Some found) is = record {
    sayer = λ m end e. absurd (cc);
    says = refl;
    only = λ of. ⊎_elim (λ e. absurd (cc)) (λ e. absurd (cc));
    gives = λ c e. absurd (cc);
    denied = λ why e. (refl, cc);
    denies = λ why t e. cc;
  }

  locks_if : (r : Option LockNo) → r ≡ try_refusal b by false → Asked b by true (if_granted r Locks)
  locks_if None is = record {
    sayer = λ m end e. absurd (cc);
    says = refl;
    only = λ of. ⊎_elim (λ e. absurd (cc)) (λ e. absurd (cc));
    gives = λ c e. absurd (cc);
    denied = λ why e. absurd (cc);
    denies = λ why t e. absurd (cc);
  }
  locks_if (Some found) is = record {
    sayer = λ m end e. absurd (cc);
    says = refl;
    only = λ of. ⊎_elim (λ e. absurd (cc)) (λ e. absurd (cc));
    gives = λ c e. absurd (cc);
    denied = λ why e. (refl, cc);
    denies = λ why t e. cc;
  }

  replaces_if : (dev : Dev) (r : Option LockNo) → r ≡ try_refusal b by false → Asked b by true (if_granted r (Replaces dev))
  replaces_if dev None is = record {
    sayer = λ m end e. absurd (cc);
    says = refl;
    only = λ of. ⊎_elim (λ e. absurd (cc)) (λ e. absurd (cc));
    gives = λ c e. absurd (cc);
    denied = λ why e. absurd (cc);
    denies = λ why t e. absurd (cc);
  }
  replaces_if dev (Some found) is = record {
    sayer = λ m end e. absurd (cc);
    says = refl;
    only = λ of. ⊎_elim (λ e. absurd (cc)) (λ e. absurd (cc));
    gives = λ c e. absurd (cc);
    denied = λ why e. (refl, cc);
    denies = λ why t e. cc;
  }

  resets_if : (of : MemberId) → is_stopped b of ≡ true → (r : Option LockNo) → r ≡ try_refusal b by false → Asked b by true (if_granted r (Resets of))
  resets_if of stopped None is = record {
    sayer = λ m end e. absurd (cc);
    says = refl;
    only = λ other. ⊎_elim (λ e. let same : of ≡ other = cc in rw (← same) stopped) (λ e. absurd (cc));
    gives = λ c e. absurd (cc);
    denied = λ why e. absurd (cc);
    denies = λ why t e. absurd (cc);
  }
  resets_if of stopped (Some found) is = record {
    sayer = λ m end e. absurd (cc);
    says = refl;
    only = λ other. ⊎_elim (λ e. absurd (cc)) (λ e. absurd (cc));
    gives = λ c e. absurd (cc);
    denied = λ why e. (refl, cc);
    denies = λ why t e. cc;
  }

  takes_over : (of : MemberId) → is_stopped b of ≡ true → Asked b by false (TakesOver of)
  takes_over of stopped = record {
    sayer = λ m end e. absurd (cc);
    says = refl;
    only = λ other. ⊎_elim (λ e. absurd (cc)) (λ e. let same : of ≡ other = cc in rw (← same) stopped);
    gives = λ c e. absurd (cc);
    denied = λ why e. absurd (cc);
    denies = λ why t e. absurd (cc);
  }

  frees : Asked b by false Frees
  frees = record {
    sayer = λ m end e. absurd (cc);
    says = refl;
    only = λ of. ⊎_elim (λ e. absurd (cc)) (λ e. absurd (cc));
    gives = λ c e. absurd (cc);
    denied = λ why e. absurd (cc);
    denies = λ why t e. absurd (cc);
  }

  unplayed : Asked b by false Unplayed
  unplayed = record {
    sayer = λ m end e. absurd (cc);
    says = refl;
    only = λ of. ⊎_elim (λ e. absurd (cc)) (λ e. absurd (cc));
    gives = λ c e. absurd (cc);
    denied = λ why e. absurd (cc);
    denies = λ why t e. absurd (cc);
  }

  deck_asked : (text : List (List ℕ)) (r : Result JobFields BadCard) → Asked b by (deck_tries r) (deck_admitted b by text r)
  deck_asked text (Err bad) = refused (closing.BadCard bad.card bad.cause)
  deck_asked text (Ok fields) = played_if (Deck fields text) (λ c e. absurd (cc)) (try_refusal b by false) refl

  reset_asked : (of : MemberId) (m s h : Bool) → is_stopped b of ≡ s → Asked b by (m && (s && not h)) (reset_as b by of m s h)
  reset_asked of false s h is = refused no_member
  reset_asked of true false h is = refused (closing.Up of)
  reset_asked of true true true is = takes_over of is
  reset_asked of true true false is = resets_if of is (try_refusal b by false) refl

  command_asked : (config : Config) (c : Command) (r : Option MemberId) → r ≡ resets c → Asked b by (command_tries config b r) (command_admitted config b by c r)
  command_asked config c None is = played_if (Give c) (λ d e. let same : c ≡ d = cc in rw (← same) (sym is)) (try_refusal b by false) refl
  command_asked config c (Some of) is = reset_asked of (is_member config of) (is_stopped b of) (is_holder b of) refl

  free_asked : (h : Bool) → Asked b by false (free_as b by h)
  free_asked true = frees
  free_asked false = refused closing.NotHolder

  is_asked : (config : Config) (what : Ask) → Asked b by (tries_lock config b what) (asked config b by what)
  is_asked config (ask.Deck cards) = deck_asked (text_of cards) (read_as config.node cards)
  is_asked config (ask.Command c) = command_asked config c (resets c) refl
  is_asked config (ask.Work n) = played_if (Work n) (λ c e. absurd (cc)) (try_refusal b by false) refl
  is_asked config ask.Lock = locks_if (try_refusal b by false) refl
  is_asked config ask.Free = free_asked (is_holder b by)
  is_asked config (ask.Line n) = played_if (Line n) (λ c e. absurd (cc)) (try_refusal b by false) refl
  is_asked config (ask.Replace copy) = replaces_if copy (try_refusal b by false) refl
  is_asked config ask.Stop = unplayed
  is_asked config (ask.StopIn what n) = unplayed
  is_asked config (ask.Lose dev) = unplayed

-- BY WHETHER THE MEMBER IS ONE, AND UP

none_such : (m s : Bool) (a : Admission) → ((end : Closing) → m ≡ true → a ≢ Refused nobody end) → admitted_as m s a ≡ Refused nobody no_member → m ≡ false
none_such false s a never e = refl
none_such true true a never e = absurd (cc)
none_such true false a never e = absurd (never no_member refl e)

is_none : (m s : Bool) (a : Admission) → m ≡ false → admitted_as m s a ≡ Refused nobody no_member
is_none false s a e = refl
is_none true s a e = absurd (cc)

was_down : (m s : Bool) (a : Admission) → ((end : Closing) → m ≡ true → a ≢ Refused nobody end) → admitted_as m s a ≡ Refused nobody closing.Down → (m ≡ true) × (s ≡ true)
was_down false s a never e = absurd (cc)
was_down true true a never e = (refl, refl)
was_down true false a never e = absurd (never closing.Down refl e)

is_down : (m s : Bool) (a : Admission) → (m ≡ true) × (s ≡ true) → admitted_as m s a ≡ Refused nobody closing.Down
is_down false s a e = absurd (let other = e.0 in cc)
is_down true true a e = refl
is_down true false a e = absurd (let other = e.1 in cc)

-- the line of a member that is up is as it is asked
up_as : (m s : Bool) (a : Admission) → m ≡ true → s ≡ false → admitted_as m s a ≡ a
up_as false s a em es = absurd (cc)
up_as true true a em es = absurd (cc)
up_as true false a em es = refl

pub asked_up : (config : Config) (b : Book) (by : MemberId) (what : Ask) → IsUp config b by → admitted config b by what ≡ asked config b by what
asked_up config b by what up = up_as (is_member config by) (is_stopped b by) (asked config b by what) up.member up.up

module _ (config : Config) (b : Book) (by : MemberId) where
  not_said : (what : Ask) (end : Closing) → is_member config by ≡ true → asked config b by what ≢ Refused nobody end
  not_said what end is e = not_nobody config by is ((is_asked b by config what).sayer nobody end e)

  -- what holds of what is asked holds of the line
  of_up : (what : Ask) → IsUp config b by → (P : Admission → Type 0) → P (asked config b by what) → P (admitted config b by what)
  of_up what up P p = subst P (sym (asked_up config b by what up)) p

pub no_such_member : NoSuchMember
no_such_member config b by what = (
  none_such (is_member config by) (is_stopped b by) (asked config b by what) (λ end. not_said config b by what end),
  is_none (is_member config by) (is_stopped b by) (asked config b by what),
)

pub down_if_stopped : DownIfStopped
down_if_stopped config b by what = (
  was_down (is_member config by) (is_stopped b by) (asked config b by what) (λ end. not_said config b by what end),
  is_down (is_member config by) (is_stopped b by) (asked config b by what),
)

-- RESETS

module _ (b : Book) (by of : MemberId) where
  given_not : (r : Option LockNo) (end : Closing) → if_granted r (Resets of) ≢ Refused by end
  given_not None end e = absurd (cc)
  given_not (Some why) end e = absurd (cc)

  given_no_takeover : (r : Option LockNo) → if_granted r (Resets of) ≢ TakesOver of
  given_no_takeover None e = absurd (cc)
  given_no_takeover (Some why) e = absurd (cc)

  no_reset : (m s h : Bool) → reset_as b by of m s h ≡ Refused by no_member → m ≡ false
  no_reset false s h e = refl
  no_reset true false h e = absurd (cc)
  no_reset true true true e = absurd (cc)
  no_reset true true false e = absurd (given_not (try_refusal b by false) no_member e)

  none_reset : (m s h : Bool) → m ≡ false → reset_as b by of m s h ≡ Refused by no_member
  none_reset false s h e = refl
  none_reset true s h e = absurd (cc)

  was_up : (m s h : Bool) → reset_as b by of m s h ≡ Refused by (closing.Up of) → (m ≡ true) × (s ≡ false)
  was_up false s h e = absurd (cc)
  was_up true false h e = (refl, refl)
  was_up true true true e = absurd (cc)
  was_up true true false e = absurd (given_not (try_refusal b by false) (closing.Up of) e)

  is_up_then : (m s h : Bool) → (m ≡ true) × (s ≡ false) → reset_as b by of m s h ≡ Refused by (closing.Up of)
  is_up_then false s h e = absurd (let other = e.0 in cc)
  is_up_then true false h e = refl
  is_up_then true true h e = absurd (let other = e.1 in cc)

  was_held : (m s h : Bool) → reset_as b by of m s h ≡ TakesOver of → (m ≡ true) × (s ≡ true) × (h ≡ true)
  was_held false s h e = absurd (cc)
  was_held true false h e = absurd (cc)
  was_held true true true e = (refl, refl, refl)
  was_held true true false e = absurd (given_no_takeover (try_refusal b by false) e)

  is_held : (m s h : Bool) → (m ≡ true) × (s ≡ true) × (h ≡ true) → reset_as b by of m s h ≡ TakesOver of
  is_held false s h e = absurd (let other = e.0 in cc)
  is_held true false h e = absurd (let other = e.1 in cc)
  is_held true true true e = refl
  is_held true true false e = absurd (let other = e.2 in cc)

abbrev reset_line : MemberId → Ask
reset_line of = ask.Command (command.Reset of)

pub no_such_reset : NoSuchReset
no_such_reset config b by of up =
    of_up config b by (reset_line of) up (λ a. (a ≡ Refused by no_member → is_member config of ≡ false) × (is_member config of ≡ false → a ≡ Refused by no_member))
    (no_reset b by of (is_member config of) (is_stopped b of) (is_holder b of), none_reset b by of (is_member config of) (is_stopped b of) (is_holder b of))

pub up_is_not_reset : UpIsNotReset
up_is_not_reset config b by of up =
    of_up config b by (reset_line of) up (λ a. (a ≡ Refused by (closing.Up of) → (is_member config of ≡ true) × (is_stopped b of ≡ false)) × ((is_member config of ≡ true) × (is_stopped b of ≡ false) → a ≡ Refused by (closing.Up of)))
    (was_up b by of (is_member config of) (is_stopped b of) (is_holder b of), is_up_then b by of (is_member config of) (is_stopped b of) (is_holder b of))

pub holder_is_taken_over : HolderIsTakenOver
holder_is_taken_over config b by of up =
    of_up config b by (reset_line of) up (λ a. (a ≡ TakesOver of → (is_member config of ≡ true) × (is_stopped b of ≡ true) × (is_holder b of ≡ true)) × ((is_member config of ≡ true) × (is_stopped b of ≡ true) × (is_holder b of ≡ true) → a ≡ TakesOver of))
    (was_held b by of (is_member config of) (is_stopped b of) (is_holder b of), is_held b by of (is_member config of) (is_stopped b of) (is_holder b of))

-- a line of a member that isn't up resets nobody, and gives nothing
only_stopped : (b : Book) (m s : Bool) (a : Admission)
    → ((of : MemberId) → (a ≡ Resets of) ⊎ (a ≡ TakesOver of) → is_stopped b of ≡ true) → ((c : Command) → a ≡ Plays (Give c) → resets c ≡ None)
    → ((of : MemberId) → (admitted_as m s a ≡ Resets of) ⊎ (admitted_as m s a ≡ TakesOver of) → is_stopped b of ≡ true)
    × ((c : Command) → admitted_as m s a ≡ Plays (Give c) → resets c ≡ None)
only_stopped b false s a only gives = (λ of. ⊎_elim (λ e. absurd (cc)) (λ e. absurd (cc)), λ c e. absurd (cc))
only_stopped b true true a only gives = (λ of. ⊎_elim (λ e. absurd (cc)) (λ e. absurd (cc)), λ c e. absurd (cc))
only_stopped b true false a only gives = (only, gives)

pub only_stopped_are_reset : OnlyStoppedAreReset
only_stopped_are_reset config b by what =
    let is = is_asked b by config what in
    only_stopped b (is_member config by) (is_stopped b by) (asked config b by what) is.only is.gives

-- FREE

was_not_holder : (b : Book) (by : MemberId) (h : Bool) → free_as b by h ≡ Refused by closing.NotHolder → h ≡ false
was_not_holder b by true e = absurd (cc)
was_not_holder b by false e = refl

is_not_holder : (b : Book) (by : MemberId) (h : Bool) → h ≡ false → free_as b by h ≡ Refused by closing.NotHolder
is_not_holder b by true e = absurd (cc)
is_not_holder b by false e = refl

was_holder : (b : Book) (by : MemberId) (h : Bool) → free_as b by h ≡ Frees → h ≡ true
was_holder b by true e = refl
was_holder b by false e = absurd (cc)

is_freed : (b : Book) (by : MemberId) (h : Bool) → h ≡ true → free_as b by h ≡ Frees
is_freed b by true e = refl
is_freed b by false e = absurd (cc)

pub only_holders_free : OnlyHoldersFree
only_holders_free config b by up =
    of_up config b by ask.Free up
    (λ a. ((a ≡ Refused by closing.NotHolder → is_holder b by ≡ false) × (is_holder b by ≡ false → a ≡ Refused by closing.NotHolder)) × ((a ≡ Frees → is_holder b by ≡ true) × (is_holder b by ≡ true → a ≡ Frees)))
    ((was_not_holder b by (is_holder b by), is_not_holder b by (is_holder b by)), (was_holder b by (is_holder b by), is_freed b by (is_holder b by)))

-- TRIES, AND WHO SAYS A LINE

pub denied_by_the_book : DeniedByTheBook
denied_by_the_book config b by what why up =
    let is = is_asked b by config what in
    of_up config b by what up (λ a. (a ≡ Denied why → (tries_lock config b what ≡ true) × (try_refusal b by false ≡ Some why)) × ((tries_lock config b what ≡ true) × (try_refusal b by false ≡ Some why) → a ≡ Denied why))
    (is.denied why, λ both. is.denies why both.0 both.1)

said_by_operator : (by : MemberId) (m s : Bool) (a : Admission) → (m ≡ false) ⊎ (s ≡ true) → sayer_of by (admitted_as m s a) ≡ nobody
said_by_operator by false s a either = refl
said_by_operator by true true a either = refl
said_by_operator by true false a either = ⊎_elim (λ e. absurd (cc)) (λ e. absurd (cc)) either

pub sayers_are_right : SayersAreRight
sayers_are_right config b by what = (
  λ up. of_up config b by what up (λ a. sayer_of by a ≡ by) (is_asked b by config what).says,
  said_by_operator by (is_member config by) (is_stopped b by) (asked config b by what),
)
