-- Where there is no dormancy: nobody gave the lock up after the tick of the book, so no try comes too early.
use Rattle.std.proofs.Common.{◌≡◌, ◌≢◌, ℕ, zero, suc, ◌+◌, ◌-◌, ◌≤◌, ◌||◌, nat_lt, min, Bool, true, false, if◌then◌else◌, List, [], ◌∷◌, ◌++◌, drop, get_or, replicate, set, Option, Some, None, is_some, refl, ◌∙◌, ap, arith}
use Rattle.std.proofs.lemmas.Bool.Decides.{nat_tests}
use Rattle.mas_types.specs.declared.ids.MemberId.{MemberId}
use Rattle.mas_types.specs.Ids.{is_somebody, nobody}
use Rattle.mas_types.specs.Queue.{is_member}
use Rattle.lock_cycle.specs.declared.answers.LockNo.TheVariants as lock
use Rattle.lock_cycle.specs.declared.standings.Standing.{Standing}
use Rattle.lock_cycle.specs.Books.{Book, after_free, after_seize, after_spend, after_stop, after_try, beginner, granted, is_dormant, is_holder, is_stopped, left_of, noted, seize_refusal, standing, tick_most, ticked, try_refusal, wakes, wakes_at, with_holder, with_standing}
use Rattle.script_lang.specs.declared.types.Ask.{Ask}
use Rattle.script_lang.specs.declared.types.Ask.TheVariants as ask
use Rattle.script_lang.specs.declared.types.Step.{Step}
use Rattle.run_turns.specs.Sights.{Sight, clear}
use Rattle.run_turns.specs.Scenes.{Armed, Scene, scene_of}
use Rattle.run_turns.specs.Admissions.{Admission, Denied, admitted, asked}
use Rattle.run_turns.specs.Awake.{AwakeRunsAreNotDormant, IsNotDormant, NoneIsDormant}
use Rattle.run_turns.specs.Givens.{RightIf}
use Rattle.run_turns.specs.Pieces.{play_of}
use Rattle.run_turns.specs.Steps.{is_up, played, played_as, played_ask, silent}
use Rattle.run_turns.proofs.Keeping.{CallsKeep, left_keeps, tried_keeps}
use Rattle.run_turns.proofs.Tests.{admitted_as, denied_by_the_book}

-- STANDINGS

abbrev FreedBy : ℕ → Option ℕ → Type 0
FreedBy t None = Unit {0}
FreedBy t (Some f) = f ≤ t

abbrev EachFreed : ℕ → List Standing → Type 0
EachFreed t [] = Unit {0}
EachFreed t (s ∷ ss) = FreedBy t s.freed × EachFreed t ss

freed_later : (t u : ℕ) (f : Option ℕ) → t ≤ u → FreedBy t f → FreedBy u f
freed_later t u None le by = tt
freed_later t u (Some f) le by = omega (arith, le, by)

each_later : (t u : ℕ) (ss : List Standing) → t ≤ u → EachFreed t ss → EachFreed u ss
each_later t u [] le each = tt
each_later t u (s ∷ ss) le each = (freed_later t u s.freed le each.0, each_later t u ss le each.1)

each_set : (t : ℕ) (ss : List Standing) (i : ℕ) (s : Standing) → FreedBy t s.freed → EachFreed t ss → EachFreed t (set ss i s)
each_set t [] i s by each = tt
each_set t (x ∷ ss) zero s by each = (by, each.1)
each_set t (x ∷ ss) (suc i) s by each = (each.0, each_set t ss i s by each.1)

each_at : (t : ℕ) (ss : List Standing) (i : ℕ) → EachFreed t ss → FreedBy t (get_or ss i (beginner 0)).freed
each_at t [] i each = tt
each_at t (x ∷ ss) zero each = each.0
each_at t (x ∷ ss) (suc i) each = each_at t ss i each.1

each_new : (t n hold : ℕ) → EachFreed t (replicate n (beginner hold))
each_new t zero hold = tt
each_new t (suc n) hold = (tt, each_new t n hold)

-- BOOKS

record IsAwake (b : Book) : Type 0 where
  dormancy : b.dormancy ≡ 0
  low : b.tick ≤ tick_most
  each : EachFreed b.tick b.members

awake_if : (c : Bool) (x y : Book) → IsAwake x → IsAwake y → IsAwake (if c then x else y)
awake_if true x y one two = one
awake_if false x y one two = two

module _ (m : MemberId) where
  awake_with : (b : Book) (s : Standing) → FreedBy b.tick s.freed → IsAwake b → IsAwake (with_standing b m s)
  awake_with b s by awake = record { dormancy = awake.dormancy; low = awake.low; each = each_set b.tick b.members (m.0 - 1) s by awake.each }

  awake_holder : (b : Book) (k : MemberId) → IsAwake b → IsAwake (with_holder b k)
  awake_holder b k awake = record { dormancy = awake.dormancy; low = awake.low; each = awake.each }

  awake_ticked : (b : Book) (inner : Bool) → IsAwake b → IsAwake (ticked b inner)
  awake_ticked b true awake = record { dormancy = awake.dormancy; low = awake.low; each = awake.each }
  awake_ticked b false awake =
      let low : min (b.tick + 1) tick_most ≤ tick_most = omega arith in
      let later : b.tick ≤ min (b.tick + 1) tick_most = omega (arith, awake.low) in
      record { dormancy = awake.dormancy; low = low; each = each_later b.tick (min (b.tick + 1) tick_most) b.members later awake.each }

  awake_granted : (b : Book) → IsAwake b → IsAwake (granted b m)
  awake_granted b awake = awake_with (with_holder b m) (record (standing b m) { left = b.hold }) (each_at b.tick b.members (m.0 - 1) awake.each) (awake_holder b m awake)

  awake_try : (b : Book) (inner : Bool) → IsAwake b → IsAwake (after_try b m inner)
  awake_try b inner awake =
      let t : IsAwake (ticked b inner) = awake_ticked b inner awake in
      awake_if (is_stopped b m || is_holder b m) b (if is_some (try_refusal b m inner) then ticked b inner else granted (ticked b inner) m) awake
      (awake_if (is_some (try_refusal b m inner)) (ticked b inner) (granted (ticked b inner) m) t (awake_granted (ticked b inner) t))

  awake_noted : (b : Book) → IsAwake b → IsAwake (noted b m)
  awake_noted b awake =
      let same : b.tick ≤ b.tick = omega arith in
      awake_with b (record (standing b m) { freed = Some b.tick }) same awake

  awake_free : (b : Book) (inner : Bool) → IsAwake b → IsAwake (after_free b m inner)
  awake_free b inner awake =
      awake_if (is_holder b m) (if inner then with_holder b nobody else with_holder (noted b m) nobody) b
      (awake_if inner (with_holder b nobody) (with_holder (noted b m) nobody) (awake_holder b nobody awake) (awake_holder (noted b m) nobody (awake_noted b awake))) awake

  awake_stop : (b : Book) → IsAwake b → IsAwake (after_stop b m)
  awake_stop b awake = awake_with b (record (standing b m) { stopped = true }) (each_at b.tick b.members (m.0 - 1) awake.each) awake

  awake_seize : (b : Book) (of : MemberId) → IsAwake b → IsAwake (after_seize b m of)
  awake_seize b of awake = awake_if (is_some (seize_refusal b of)) b (granted b m) awake (awake_granted b awake)

  awake_spent : (b : Book) (commands : ℕ) → IsAwake b → IsAwake (after_spend b m commands)
  awake_spent b commands awake = awake_with b (record (standing b m) { left = left_of b m - commands }) (each_at b.tick b.members (m.0 - 1) awake.each) awake

  awake_keeps : CallsKeep m IsAwake
  awake_keeps = record { tries = awake_try; seizes = awake_seize; frees = awake_free; spends = awake_spent }

-- LINES

awake_as : (S : Scene) (by : MemberId) (at : ℕ) (sight : Sight) (a : Admission) → IsAwake S.book → IsAwake (played_as S by at sight a).next.book
awake_as S by at sight a awake =
    left_keeps by IsAwake (awake_keeps by) sight.cut (λ cut is why b awake. awake_stop by b awake) (play_of S by at sight a) (S.counts by) (tried_keeps by IsAwake (awake_keeps by) a S.book awake)

awake_stopped : (up : Bool) (S : Scene) (b : Book) → IsAwake S.book → IsAwake b → IsAwake (if up then silent (record S { book = b }) else silent S).next.book
awake_stopped true S b awake later = later
awake_stopped false S b awake later = awake

awake_armed : (up : Bool) (S : Scene) (armed : List Armed) → IsAwake S.book → IsAwake (if up then silent (record S { armed = armed }) else silent S).next.book
awake_armed true S armed awake = awake
awake_armed false S armed awake = awake

awake_ask : (S : Scene) (by : MemberId) (at : ℕ) (sight : Sight) (what : Ask) → IsAwake S.book → IsAwake (played_ask S by at sight what).next.book
awake_ask S by at sight ask.Stop awake = awake_stopped (is_up S by) S (after_stop S.book by) awake (awake_stop by S.book awake)
awake_ask S by at sight (ask.StopIn what n) awake = awake_armed (is_up S by) S (S.armed ++ record { member = by; fuse = what; left = n } ∷ []) awake
awake_ask S by at sight (ask.Lose dev) awake = awake
awake_ask S by at sight (ask.Deck cards) awake = awake_as S by at sight (admitted S.queue.config S.book by (ask.Deck cards)) awake
awake_ask S by at sight (ask.Command c) awake = awake_as S by at sight (admitted S.queue.config S.book by (ask.Command c)) awake
awake_ask S by at sight (ask.Work n) awake = awake_as S by at sight (admitted S.queue.config S.book by (ask.Work n)) awake
awake_ask S by at sight ask.Lock awake = awake_as S by at sight (admitted S.queue.config S.book by ask.Lock) awake
awake_ask S by at sight ask.Free awake = awake_as S by at sight (admitted S.queue.config S.book by ask.Free) awake
awake_ask S by at sight (ask.Line n) awake = awake_as S by at sight (admitted S.queue.config S.book by (ask.Line n)) awake
awake_ask S by at sight (ask.Replace dev) awake = awake_as S by at sight (admitted S.queue.config S.book by (ask.Replace dev)) awake

-- NO TRY IS DORMANT

not_below : (a b : ℕ) → b ≤ a → nat_lt a b ≡ false
not_below a b le = grind (arith, nat_tests)

wakes_then : (t : ℕ) (f : Option ℕ) → FreedBy t f → t ≤ tick_most → nat_lt (min (t + 1) tick_most) (wakes_at 0 f) ≡ false
wakes_then t None by low = not_below (min (t + 1) tick_most) 0 (omega arith)
wakes_then t (Some f) by low = not_below (min (t + 1) tick_most) (min (f + 0) tick_most) (omega (arith, by))

is_awake : (b : Book) (m : MemberId) → IsAwake b → is_dormant b m false ≡ false
is_awake b m awake =
    ap (λ (d : ℕ). nat_lt (min (b.tick + 1) tick_most) (wakes_at d (standing b m).freed)) awake.dormancy
    ∙ wakes_then b.tick (standing b m).freed (each_at b.tick b.members (m.0 - 1) awake.each) awake.low

module _ (busy : MemberId) (w tick : ℕ) where
  no_dormant : (stopped holds other dormant : Bool) → dormant ≡ false
      → (if stopped then Some lock.Down else if holds then None else if other then Some (lock.Busy busy) else if dormant then Some (lock.Dormant w) else None) ≢ Some (lock.Dormant tick)
  no_dormant true holds other dormant is e = absurd (cc)
  no_dormant false true other dormant is e = absurd (cc)
  no_dormant false false true dormant is e = absurd (cc)
  no_dormant false false false true is e = absurd (cc)
  no_dormant false false false false is e = absurd (cc)

no_try : (b : Book) (m : MemberId) (tick : ℕ) → IsAwake b → try_refusal b m false ≢ Some (lock.Dormant tick)
no_try b m tick awake = no_dormant b.holder (wakes b m) tick (is_stopped b m) (is_holder b m) (is_somebody b.holder) (is_dormant b m false) (is_awake b m awake)

-- only a member that is up is denied
denied_up : (a : Admission) (tick : ℕ) (member stopped : Bool) → admitted_as member stopped a ≡ Denied (lock.Dormant tick) → (member ≡ true) × (stopped ≡ false)
denied_up a tick false stopped e = absurd (cc)
denied_up a tick true true e = absurd (cc)
denied_up a tick true false e = (refl, refl)

not_dormant : (S : Scene) (step : Step) → IsAwake S.book → IsNotDormant S step
not_dormant S step awake tick e =
    let up = denied_up (asked S.queue.config S.book step.by step.what) tick (is_member S.queue.config step.by) (is_stopped S.book step.by) e in
    no_try S.book step.by tick awake
    ((denied_by_the_book S.queue.config S.book step.by step.what (lock.Dormant tick) (record { member = up.0; up = up.1 })).0 e).1

right_if : (c : Bool) (R : Type 0) → R → RightIf c R
right_if true R r = r
right_if false R r = tt

none_dormant : (S : Scene) (at : ℕ) (sights : List Sight) (steps : List Step) → IsAwake S.book → NoneIsDormant S at sights steps
none_dormant S at sights [] awake = tt
none_dormant S at sights (step ∷ steps) awake =
    let p = played S at (get_or sights 0 clear) step in (
      not_dormant S step awake,
      right_if p.goes_on (NoneIsDormant p.next (at + 1) (drop 1 sights) steps) (none_dormant p.next (at + 1) (drop 1 sights) steps (awake_ask S step.by at (get_or sights 0 clear) step.what awake)),
    )

pub awake_runs : AwakeRunsAreNotDormant
awake_runs Q sights steps none = none_dormant (scene_of Q) 1 sights steps
    (record { dormancy = none; low = omega arith; each = each_new 0 Q.config.members Q.config.hold })
