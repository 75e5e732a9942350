-- The lock, taken again or had, and left.
use Rattle.std.proofs.Common.{◌≡◌, ◌≢◌, ◌⊎◌, inl, inr, ⊎_elim, ℕ, zero, suc, ◌-◌, ◌==◌, ◌≤◌, Bool, true, false, ◌||◌, if◌then◌else◌, List, [], ◌∷◌, length, is_some, Option, Some, None, refl, sym, ap, ◌∙◌, subst, arith}
use Rattle.std.specs.Prelude.{slice_set}
use Rattle.std.proofs.lemmas.Bool.{eq-eqb, eqb-true}
use Rattle.std.proofs.lemmas.List.{get_or-set_same, length-set}
use Rattle.mas_types.specs.declared.ids.MemberId.{MemberId}
use Rattle.mas_types.specs.Ids.{is_somebody, nobody}
use Rattle.lock_cycle.specs.declared.answers.LockNo.{LockNo}
use Rattle.lock_cycle.specs.declared.answers.LockNo.TheVariants as lock
use Rattle.lock_cycle.specs.declared.standings.Standing.{Standing}
use Rattle.lock_cycle.specs.Books.{Book, IsMember, after_spend, after_stop, beginner, granted, is_dormant, is_holder, is_stopped, left_of, noted, standing, ticked, try_refusal, wakes, with_holder, with_standing}
use Rattle.mas_complex.specs.Locking.{MayAct}
use Rattle.run_turns.specs.Pieces.{entered}
use Rattle.step_turns.specs.Sittings.{released}
use Rattle.step_turns.specs.declared.states.Grant.{Grant}
use Rattle.step_turns.specs.declared.states.Grant.TheVariants.{ByLock, ForStep}
use Rattle.step_turns.specs.declared.states.Release.{Release}
use Rattle.step_turns.specs.declared.states.Release.TheVariants.{Inner, Keep, Outer}
use Rattle.step_turns.specs.declared.states.State.{State}
use Rattle.step_turns.specs.declared.states.State.TheVariants.{Away, Fresh, Rested, Told}
use Rattle.member_hand.specs.Locks.{IsUnlocked, MayHold, left_book}

module _ (b : Book) (by : MemberId) where
  abbrev refusal : Bool → Bool → Bool → Option LockNo
  refusal stopped holds held =
      if stopped then Some lock.Down
      else if holds then None
      else if held then Some (lock.Busy b.holder)
      else if is_dormant b by true then Some (lock.Dormant (wakes b by))
      else None

  -- a member that holds, or that may take what nobody holds, isn't refused
  not_refused : (holds held : Bool) → (holds ≡ true) ⊎ (held ≡ false) → refusal false holds held ≡ None
  not_refused true held either = refl
  not_refused false false either = refl
  not_refused false true either = ⊎_elim (λ e. absurd (cc)) (λ e. absurd (cc)) either

  holds_or_free : MayHold b by → (is_holder b by ≡ true) ⊎ (is_somebody b.holder ≡ false)
  holds_or_free may = ⊎_elim
      (λ mine. inl (subst (λ (x : MemberId). (x.0 == by.0) ≡ true) (sym mine) (eq-eqb by.0 by.0 refl)))
      (λ free. inr (ap is_somebody free))
      may.free

  pub tries_well : MayHold b by → try_refusal b by true ≡ None
  tries_well may = ap (λ (x : Bool). refusal x (is_holder b by) (is_somebody b.holder)) may.up ∙ not_refused (is_holder b by) (is_somebody b.holder) (holds_or_free may)

  -- THE BOOK THEN

  abbrev tried_as : Bool → Bool → Option LockNo → Book
  tried_as stopped holds r = if stopped || holds then b else if is_some r then ticked b true else granted (ticked b true) by

  pub up_granted : MayHold b by → is_stopped (granted (ticked b true) by) by ≡ false
  up_granted may =
      let some = may.some in
      let few = may.seated.1 in
      ap (λ (s : Standing). s.stopped) (get_or-set_same b.members (by.0 - 1) (record (standing b by) { left = b.hold }) (beginner 0) (omega (arith, some, few))) ∙ may.up

  holds_none : MayHold b by → b.holder ≡ nobody → is_holder b by ≡ true → ⊥
  holds_none may free e =
      let zero : (0 == by.0) ≡ true = subst (λ (x : MemberId). (x.0 == by.0) ≡ true) free e in
      let some = may.some in
      let is = eqb-true 0 by.0 zero in
      absurd (omega (arith, some, is))

  then_acts : MayHold b by → (holds : Bool) → is_holder b by ≡ holds → MayAct (tried_as false holds None) by
  then_acts may true e = record { holds = ⊎_elim (λ mine. mine) (λ free. absurd (holds_none may free e)) may.free; up = λ positive. may.up }
  then_acts may false e = record { holds = refl; up = λ positive. up_granted may }

  pub acts_entered : MayHold b by → MayAct (entered b by) by
  acts_entered may =
      subst (λ (c : Book). MayAct c by)
      (sym (ap (λ (x : Bool). tried_as x (is_holder b by) (try_refusal b by true)) may.up ∙ ap (λ (r : Option LockNo). tried_as false (is_holder b by) r) (tries_well may)))
      (then_acts may (is_holder b by) refl)

-- and the member is up still
pub up_spent : (b : Book) (by : MemberId) (given : ℕ) → 1 ≤ by.0 → by.0 ≤ length b.members → is_stopped b by ≡ false → is_stopped (after_spend b by given) by ≡ false
up_spent b by given some few up =
    ap (λ (s : Standing). s.stopped) (get_or-set_same b.members (by.0 - 1) (record (standing b by) { left = left_of b by - given }) (beginner 0) (omega (arith, some, few))) ∙ up

-- THE BOOK AFTER A SITTING'S END

not_nobody : (b : Book) (by : MemberId) → 1 ≤ by.0 → b.holder ≡ nobody → b.holder ≡ by → ⊥
not_nobody b by some free mine = let none = ap (λ (i : MemberId). i.0) (sym mine ∙ free) in absurd (omega (arith, some, none))

set_twice : {A : Type 0} (xs : List A) (i : ℕ) (x : A) → slice_set (slice_set xs i x) i x ≡ slice_set xs i x
set_twice [] i x = refl
set_twice (y ∷ ys) zero x = refl
set_twice (y ∷ ys) (suc i) x = ap (λ (l : List _). y ∷ l) (set_twice ys i x)

-- what a lock comes to within a step
abbrev pub inner_by : Grant → Release
inner_by ForStep = Inner
inner_by ByLock = Keep

pub released_within : (g : Grant) (hold given : ℕ) (s : State) → s ≢ Told → released g hold given s ≡ inner_by g
released_within ForStep hold given (Fresh task) ne = refl
released_within ForStep hold given (Away a) ne = refl
released_within ForStep hold given (Rested p) ne = refl
released_within ForStep hold given Told ne = absurd (ne refl)
released_within ByLock hold given (Fresh task) ne = refl
released_within ByLock hold given (Away a) ne = refl
released_within ByLock hold given (Rested p) ne = refl
released_within ByLock hold given Told ne = absurd (ne refl)

if_members : (h : Bool) (n : ℕ) (c d : Book) → length c.members ≡ n → length d.members ≡ n → length (if h then c else d).members ≡ n
if_members true n c d ec ed = ec
if_members false n c d ec ed = ed

module _ (b : Book) (by : MemberId) (given : ℕ) where
  abbrev spent : Book
  spent = after_spend b by given

  spent_members : length spent.members ≡ length b.members
  spent_members = length-set b.members (by.0 - 1) _

  pub left_members : (release : Release) → length (left_book b by given release).members ≡ length b.members
  left_members Keep = spent_members
  left_members Inner = if_members (is_holder spent by) (length b.members) (with_holder spent nobody) spent spent_members spent_members
  left_members Outer =
      if_members (is_holder spent by) (length b.members) (with_holder (noted spent by) nobody) spent (length-set spent.members (by.0 - 1) _ ∙ spent_members) spent_members

  pub stopped_members : length (after_stop b by).members ≡ length b.members
  stopped_members = length-set b.members (by.0 - 1) _

  module _ (acts : MayAct b by) (seated : IsMember b by) where
    spent_up : is_stopped spent by ≡ false
    spent_up = let first = seated.0 in up_spent b by given (omega (arith, first)) seated.1 (acts.up seated.0)

    spent_holds : is_holder spent by ≡ true
    spent_holds = subst (λ (x : MemberId). (x.0 == by.0) ≡ true) (sym acts.holds) (eq-eqb by.0 by.0 refl)

    freed : left_book b by given Inner ≡ with_holder spent nobody
    freed = ap (λ (h : Bool). if h then with_holder spent nobody else spent) spent_holds

    -- within its step the member is up still, and has the lock only where LOCK took it
    pub within_up : (g : Grant) → is_stopped (left_book b by given (inner_by g)) by ≡ false
    within_up ByLock = spent_up
    within_up ForStep = subst (λ (c : Book). is_stopped c by ≡ false) (sym freed) spent_up

    pub within_unlocked : (g : Grant) → IsUnlocked g (left_book b by given (inner_by g)) by
    within_unlocked ByLock = acts.holds
    within_unlocked ForStep = ap (λ (c : Book). c.holder) freed

    pub within_free : (g : Grant) → ((left_book b by given (inner_by g)).holder ≡ by) ⊎ ((left_book b by given (inner_by g)).holder ≡ nobody)
    within_free ByLock = inl acts.holds
    within_free ForStep = inr (ap (λ (c : Book). c.holder) freed)

    -- a member that has the lock after its sitting's end kept it
    pub still_holds : (release : Release) → 1 ≤ by.0 → (left_book b by given release).holder ≡ by → left_book b by given release ≡ spent
    still_holds Keep some mine = refl
    still_holds Inner some mine = absurd (not_nobody (left_book b by given Inner) by some (ap (λ (c : Book). c.holder) freed) mine)
    still_holds Outer some mine =
        absurd (not_nobody (left_book b by given Outer) by some (ap (λ (h : Bool). (if h then with_holder (noted spent by) nobody else spent).holder) spent_holds) mine)

    pub spent_acts : MayAct spent by
    spent_acts = record { holds = acts.holds; up = λ positive. spent_up }

-- a second stop changes nothing
pub stopped_twice : (b : Book) (by : MemberId) → 1 ≤ by.0 → by.0 ≤ length b.members → after_stop (after_stop b by) by ≡ after_stop b by
stopped_twice b by some few =
    let once : Standing = record (standing b by) { stopped = true } in
    let same : standing (after_stop b by) by ≡ once = get_or-set_same b.members (by.0 - 1) once (beginner 0) (omega (arith, some, few)) in
    ap (λ (st : Standing). with_standing (after_stop b by) by (record st { stopped = true })) same
    ∙ ap (λ (l : List Standing). record b { members = l }) (set_twice b.members (by.0 - 1) once)
