-- What a line of a member comes to: it is refused, or admitted for what it asks.
use Rattle.std.proofs.Common.{◌≡◌, ◌≤◌, nat_le, Bool, true, false, not, ◌||◌, if◌then◌else◌, List, length, ℕ, Option, Some, None, is_some, Result, Ok, Err, refl, ◌∙◌, ap, arith}
use Rattle.std.proofs.lemmas.Bool.{and_parts, eqb-true}
use Rattle.std.proofs.lemmas.Bool.Decides.{nat_tests}
use Rattle.mas_types.specs.declared.answers.Closing.{Closing}
use Rattle.mas_types.specs.declared.answers.Closing.TheVariants as closing
use Rattle.mas_types.specs.declared.commands.Command.{Command}
use Rattle.mas_types.specs.declared.ids.Dev.{Dev}
use Rattle.mas_types.specs.declared.ids.MemberId.{MemberId}
use Rattle.mas_types.specs.declared.jobs.JobFields.{JobFields}
use Rattle.mas_types.specs.declared.queues.Config.{Config}
use Rattle.mas_types.specs.Closings.{AreMembersNamed}
use Rattle.mas_types.specs.Fit.{IsConfig}
use Rattle.mas_types.specs.Ids.{is_somebody, nobody}
use Rattle.mas_types.specs.Limits.{members_most}
use Rattle.mas_types.specs.Queue.{is_member}
use Rattle.card_reader.specs.declared.decks.Refused.{Refused as BadCard}
use Rattle.card_reader.specs.Decks.{read_as, text_of}
use Rattle.lock_cycle.specs.declared.answers.LockNo.{LockNo}
use Rattle.lock_cycle.specs.Books.{Book, IsMember, after_try, granted, is_holder, is_stopped, ticked, try_refusal}
use Rattle.script_lang.specs.declared.types.Ask.{Ask}
use Rattle.script_lang.specs.declared.types.Ask.TheVariants as ask
use Rattle.spool_plant.specs.declared.plant.Fuse.{Fuse}
use Rattle.step_turns.specs.declared.states.Task.TheVariants.{Deck, Give, Line, Work}
use Rattle.run_turns.specs.Admissions.{Admission, Denied, Frees, Locks, Plays, Refused, Replaces, Resets, TakesOver, Unplayed, admitted, asked, command_admitted, deck_admitted, if_granted, no_member, reset_admitted, resets, tries}
use Rattle.run_turns.specs.Laws.{IsUp}

-- A MEMBER of the configuration

module _ (config : Config) (m : MemberId) (is : is_member config m ≡ true) where
  pub somebody_of : is_somebody m ≡ true
  somebody_of = (and_parts (is_somebody m) (nat_le m.0 config.members) is).0

  within : m.0 ≤ config.members
  within = let le : nat_le m.0 config.members ≡ true = (and_parts (is_somebody m) (nat_le m.0 config.members) is).1 in grind (arith, nat_tests, le)

  pub some_of : 1 ≤ m.0
  some_of = by_number m.0 somebody_of where
    by_number : (n : ℕ) → is_somebody (record { 0 = n }) ≡ true → 1 ≤ n
    by_number n some = grind (arith, nat_tests, some)

  pub few_of : IsConfig config → m.0 ≤ members_most
  few_of fits = let most = fits.members.1 in omega (arith, within, most)

  -- it has its place in the book
  pub inside_of : (b : Book) → length b.members ≡ config.members → IsMember b m
  inside_of b booked = (omega (arith, some_of), omega (arith, within, booked))

-- A TRY of a member that is up, which wasn't refused

pub holder_is : (b : Book) (by : MemberId) → is_holder b by ≡ true → b.holder ≡ by
holder_is b by holds = ap (λ (k : ℕ). let m : MemberId = record { 0 = k } in m) (eqb-true b.holder.0 by.0 holds)

module _ (b : Book) (by : MemberId) (up : is_stopped b by ≡ false) (none : try_refusal b by false ≡ None) where
  abbrev tried_as : Bool → Bool → Option LockNo → Book
  tried_as stopped holds r = if stopped || holds then b else if is_some r then ticked b false else granted (ticked b false) by

  tried_so : (holds : Bool) → is_holder b by ≡ holds → after_try b by false ≡ tried_as false holds None
  tried_so holds is =
      ap (λ (s : Bool). tried_as s (is_holder b by) (try_refusal b by false)) up
      ∙ ap (λ (h : Bool). tried_as false h (try_refusal b by false)) is
      ∙ ap (λ (r : Option LockNo). tried_as false holds r) none

  -- who holds it already keeps the book
  pub holder_keeps : is_holder b by ≡ true → after_try b by false ≡ b
  holder_keeps holds = tried_so true holds

  got_holder : (after_try b by false).holder ≡ by
  got_holder = by_test (is_holder b by) refl where
    by_test : (h : Bool) → is_holder b by ≡ h → (after_try b by false).holder ≡ by
    by_test true holds = ap (λ (c : Book). c.holder) (tried_so true holds) ∙ holder_is b by holds
    by_test false free = ap (λ (c : Book). c.holder) (tried_so false free)

-- who was refused the lock left it where it was
pub denied_holder : (b : Book) (by : MemberId) (why : LockNo) → try_refusal b by false ≡ Some why → (after_try b by false).holder ≡ b.holder
denied_holder b by why refused = by_tests (is_stopped b by) (is_holder b by) (try_refusal b by false) refused where
  by_tests : (s h : Bool) (r : Option LockNo) → r ≡ Some why → (if s || h then b else if is_some r then ticked b false else granted (ticked b false) by).holder ≡ b.holder
  by_tests true h r is = refl
  by_tests false true r is = refl
  by_tests false false None is = absurd (cc)
  by_tests false false (Some other) is = refl

-- who got the lock by a try
pub record HasGot (config : Config) (b : Book) (by : MemberId) : Type 0 where
  pub is_up : IsUp config b by
  pub none : try_refusal b by false ≡ None
  pub holds : (after_try b by false).holder ≡ by

-- WHAT AN ASK COMES TO, with what was tested for it

pub data Comes (config : Config) (b : Book) (by : MemberId) : Ask → Admission → Type 0 where
  NoMember : {what : Ask} (end : Closing) → AreMembersNamed end → Comes config b by what (Refused nobody end)
  SaysNo : {what : Ask} (end : Closing) → IsUp config b by → AreMembersNamed end → Comes config b by what (Refused by end)
  StillUp : {what : Ask} (of : MemberId) → IsUp config b by → is_member config of ≡ true → Comes config b by what (Refused by (closing.Up of))
  NotGranted : {what : Ask} (why : LockNo) → IsUp config b by → try_refusal b by false ≡ Some why → Comes config b by what (Denied why)
  DeckCame : (cards : List (List ℕ)) (fields : JobFields) → HasGot config b by → read_as config.node cards ≡ Ok fields → Comes config b by (ask.Deck cards) (Plays (Deck fields (text_of cards)))
  CommandCame : (c : Command) → HasGot config b by → resets c ≡ None → Comes config b by (ask.Command c) (Plays (Give c))
  ResetCame : (c : Command) (of : MemberId) → HasGot config b by → resets c ≡ Some of → is_member config of ≡ true → is_stopped b of ≡ true → Comes config b by (ask.Command c) (Resets of)
  TakeoverCame : (c : Command) (of : MemberId) → IsUp config b by → resets c ≡ Some of → is_member config of ≡ true → is_stopped b of ≡ true → is_holder b of ≡ true
      → Comes config b by (ask.Command c) (TakesOver of)
  WorkCame : (n : ℕ) → HasGot config b by → Comes config b by (ask.Work n) (Plays (Work n))
  LineCame : (n : ℕ) → HasGot config b by → Comes config b by (ask.Line n) (Plays (Line n))
  LockCame : HasGot config b by → Comes config b by ask.Lock Locks
  FreeCame : IsUp config b by → is_holder b by ≡ true → Comes config b by ask.Free Frees
  ReplaceCame : (dev : Dev) → HasGot config b by → Comes config b by (ask.Replace dev) (Replaces dev)
  StopCame : Comes config b by ask.Stop Unplayed
  ArmCame : (fuse : Fuse) (n : ℕ) → Comes config b by (ask.StopIn fuse n) Unplayed
  LossCame : (dev : Dev) → Comes config b by (ask.Lose dev) Unplayed

module _ (config : Config) (b : Book) (by : MemberId) where
  module _ (up : IsUp config b by) where
    tries_come : {what : Ask} (a : Admission) → (HasGot config b by → Comes config b by what a) → Comes config b by what (tries b by a)
    tries_come {what} a came = by_refusal (try_refusal b by false) refl where
      by_refusal : (r : Option LockNo) → try_refusal b by false ≡ r → Comes config b by what (if_granted r a)
      by_refusal None is = came (record { is_up = up; none = is; holds = got_holder b by up.up is })
      by_refusal (Some why) is = NotGranted why up is

    deck_comes : (cards : List (List ℕ)) (r : Result JobFields BadCard) → read_as config.node cards ≡ r → Comes config b by (ask.Deck cards) (deck_admitted b by (text_of cards) r)
    deck_comes cards (Err bad) is = SaysNo (closing.BadCard bad.card bad.cause) up tt
    deck_comes cards (Ok fields) is = tries_come (Plays (Deck fields (text_of cards))) (λ got. DeckCame cards fields got is)

    reset_comes : (c : Command) (of : MemberId) → resets c ≡ Some of → Comes config b by (ask.Command c) (reset_admitted config b by of)
    reset_comes c of so = by_tests (is_member config of) (is_stopped b of) (is_holder b of) refl refl refl where
      by_tests : (m s h : Bool) → is_member config of ≡ m → is_stopped b of ≡ s → is_holder b of ≡ h
          → Comes config b by (ask.Command c) (if not m then Refused by no_member else if not s then Refused by (closing.Up of) else if h then TakesOver of else tries b by (Resets of))
      by_tests false s h none stops holds = SaysNo no_member up tt
      by_tests true false h member its_up holds = StillUp of up member
      by_tests true true true member down holds = TakeoverCame c of up so member down holds
      by_tests true true false member down holds = tries_come (Resets of) (λ got. ResetCame c of got so member down)

    command_comes : (c : Command) (r : Option MemberId) → resets c ≡ r → Comes config b by (ask.Command c) (command_admitted config b by c r)
    command_comes c None is = tries_come (Plays (Give c)) (λ got. CommandCame c got is)
    command_comes c (Some of) is = reset_comes c of is

    free_comes : (h : Bool) → is_holder b by ≡ h → Comes config b by ask.Free (if h then Frees else Refused by closing.NotHolder)
    free_comes true holds = FreeCame up holds
    free_comes false holds = SaysNo closing.NotHolder up tt

    asked_comes : (what : Ask) → Comes config b by what (asked config b by what)
    asked_comes (ask.Deck cards) = deck_comes cards (read_as config.node cards) refl
    asked_comes (ask.Command c) = command_comes c (resets c) refl
    asked_comes (ask.Work n) = tries_come (Plays (Work n)) (λ got. WorkCame n got)
    asked_comes (ask.Line n) = tries_come (Plays (Line n)) (λ got. LineCame n got)
    asked_comes ask.Lock = tries_come Locks (λ got. LockCame got)
    asked_comes ask.Free = free_comes (is_holder b by) refl
    asked_comes (ask.Replace dev) = tries_come (Replaces dev) (λ got. ReplaceCame dev got)
    asked_comes ask.Stop = StopCame
    asked_comes (ask.StopIn fuse n) = ArmCame fuse n
    asked_comes (ask.Lose dev) = LossCame dev

  pub comes : (what : Ask) → Comes config b by what (admitted config b by what)
  comes what = by_tests (is_member config by) (is_stopped b by) refl refl where
    by_tests : (m s : Bool) → is_member config by ≡ m → is_stopped b by ≡ s
        → Comes config b by what (if not m then Refused nobody no_member else if s then Refused nobody closing.Down else asked config b by what)
    by_tests false s none stops = NoMember no_member tt
    by_tests true true member down = NoMember closing.Down tt
    by_tests true false member up = asked_comes (record { member = member; up = up }) what
