-- What a line of a stopped member does, and a stop.
use Rattle.std.proofs.Common.{◌≡◌, Bool, true, false, if◌then◌else◌, refl, sym, ap, subst, ℕ}
use Rattle.mas_types.specs.declared.answers.Closing.{Closing}
use Rattle.mas_types.specs.declared.answers.Closing.TheVariants as closing
use Rattle.mas_types.specs.declared.ids.MemberId.{MemberId}
use Rattle.mas_types.specs.Ids.{nobody}
use Rattle.mas_types.specs.Queue.{is_member}
use Rattle.mas_types.specs.Run.{run}
use Rattle.lock_cycle.specs.Books.{is_stopped}
use Rattle.script_lang.specs.declared.types.Ask.{Ask}
use Rattle.script_lang.specs.declared.types.Ask.TheVariants as ask
use Rattle.run_turns.specs.Sights.{Sight}
use Rattle.run_turns.specs.Scenes.{Scene, flying_in, kept_in}
use Rattle.run_turns.specs.Admissions.{Admission, Refused, admitted, asked, no_member}
use Rattle.run_turns.specs.Laws.{NoStopOfTheStopped, PlaysNothing, StoppedPlayNothing, StopsAreNoted}
use Rattle.run_turns.specs.Pieces.{play_of}
use Rattle.run_turns.specs.Steps.{Played, flight_then, is_up, played_as, played_ask, silent}
use Rattle.run_turns.proofs.Ledger.{left_bare}
use Rattle.run_turns.proofs.Tests.{admitted_as}

-- a line that is refused before any try
refused_nothing : (S : Scene) (by : MemberId) (at : ℕ) (sight : Sight) (sayer : MemberId) (end : Closing) → PlaysNothing S (played_as S by at sight (Refused sayer end))
refused_nothing S by at sight sayer end =
    let none = left_bare by sight.cut (play_of S by at sight (Refused sayer end)) (S.counts by) (refl, refl, refl, tt) in
    record {
      batches = none.batches;
      printed = none.printed;
      given = none.given;
      queue = ap (λ bs. run S.queue (kept_in bs)) none.batches;
      flight = ap (λ bs. flight_then (flying_in bs) S.flight) none.batches;
    }

by_whether : (m : Bool) (S : Scene) (by : MemberId) (at : ℕ) (sight : Sight) (a : Admission) → PlaysNothing S (played_as S by at sight (admitted_as m true a))
by_whether false S by at sight a = refused_nothing S by at sight nobody no_member
by_whether true S by at sight a = refused_nothing S by at sight nobody closing.Down

line_nothing : (S : Scene) (by : MemberId) (at : ℕ) (sight : Sight) (what : Ask) → is_stopped S.book by ≡ true
    → PlaysNothing S (played_as S by at sight (admitted S.queue.config S.book by what))
line_nothing S by at sight what stopped =
    subst (λ (s : Bool). PlaysNothing S (played_as S by at sight (admitted_as (is_member S.queue.config by) s (asked S.queue.config S.book by what)))) (sym stopped)
    (by_whether (is_member S.queue.config by) S by at sight (asked S.queue.config S.book by what))

-- a line that plays nothing leaves the queue and the flight, in either of two scenes
either_nothing : (S : Scene) (u : Bool) (one : Scene) → one.queue ≡ S.queue → one.flight ≡ S.flight → PlaysNothing S (if u then silent one else silent S)
either_nothing S true one q f = record { batches = refl; printed = refl; given = refl; queue = q; flight = f }
either_nothing S false one q f = record { batches = refl; printed = refl; given = refl; queue = refl; flight = refl }

ask_nothing : (S : Scene) (by : MemberId) (at : ℕ) (sight : Sight) (what : Ask) → is_stopped S.book by ≡ true → PlaysNothing S (played_ask S by at sight what)
ask_nothing S by at sight ask.Stop stopped = either_nothing S (is_up S by) _ refl refl
ask_nothing S by at sight (ask.StopIn what n) stopped = either_nothing S (is_up S by) _ refl refl
ask_nothing S by at sight (ask.Lose dev) stopped = record { batches = refl; printed = refl; given = refl; queue = refl; flight = refl }
ask_nothing S by at sight (ask.Deck cards) stopped = line_nothing S by at sight (ask.Deck cards) stopped
ask_nothing S by at sight (ask.Command c) stopped = line_nothing S by at sight (ask.Command c) stopped
ask_nothing S by at sight (ask.Work n) stopped = line_nothing S by at sight (ask.Work n) stopped
ask_nothing S by at sight ask.Lock stopped = line_nothing S by at sight ask.Lock stopped
ask_nothing S by at sight ask.Free stopped = line_nothing S by at sight ask.Free stopped
ask_nothing S by at sight (ask.Line n) stopped = line_nothing S by at sight (ask.Line n) stopped
ask_nothing S by at sight (ask.Replace copy) stopped = line_nothing S by at sight (ask.Replace copy) stopped

pub stopped_play_nothing : StoppedPlayNothing
stopped_play_nothing S at sight step stopped = ask_nothing S step.by at sight step.what stopped

-- STOPS

at_false : (u : Bool) (one two : Played) → u ≡ false → (if u then one else two) ≡ two
at_false true one two e = absurd (cc)
at_false false one two e = refl

at_true : (u : Bool) (one two : Played) → u ≡ true → (if u then one else two) ≡ one
at_true true one two e = refl
at_true false one two e = absurd (cc)

pub no_stop_of_the_stopped : NoStopOfTheStopped
no_stop_of_the_stopped S m e = (at_false (is_up S m) _ (silent S) e, λ what n. at_false (is_up S m) _ (silent S) e)

pub stops_are_noted : StopsAreNoted
stops_are_noted S m e = at_true (is_up S m) _ (silent S) e
