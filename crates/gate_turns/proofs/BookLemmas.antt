-- What the calls of the lock's book leave to the members that don't act.
use Rattle.std.proofs.Common.{◌≡◌, ◌≢◌, ℕ, zero, suc, ◌-◌, ◌<◌, Bool, true, false, List, [], ◌∷◌, refl, sym, ap, ◌∙◌, arith}
use Rattle.std.specs.Prelude.{not, ◌==◌, ◌&&◌, ◌||◌, if◌then◌else◌, slice_index_or, slice_set, Option, Some, None, is_some}
use Rattle.std.proofs.lemmas.Grind.{common_steps}
use Rattle.std.proofs.lemmas.Bool.{and_parts as both, eq-eqb, eqb-true, ne_eqb}
use Rattle.mas_types.specs.declared.ids.MemberId.{MemberId}
use Rattle.mas_types.specs.Ids.{nobody, is_somebody, same_member}
use Rattle.lock_cycle.specs.declared.standings.Standing.{Standing}
use Rattle.lock_cycle.specs.declared.answers.LockNo.{LockNo}
use Rattle.lock_cycle.specs.declared.answers.LockNo.TheVariants as lock
use Rattle.lock_cycle.specs.declared.answers.SeizeNo.TheVariants as seized
use Rattle.lock_cycle.specs.Books.{Book, standing, is_stopped, is_holder, left_of, with_standing, with_holder, granted, ticked, noted, is_dormant, wakes, try_refusal, after_try, after_free, after_stop, seize_refusal, after_seize, after_spend, beginner}
use Rattle.gate_facts.proofs.Lists.{true_false, not_true}
use Rattle.gate_turns.specs.Seats.{has_lock, shows_stopped}

-- who isn't somebody has nothing
somebody : (m : MemberId) → (is_somebody m ≡ true → 0 < m.0) × (is_somebody m ≡ false → m.0 ≡ 0)
somebody m = ((λ e. grind (arith, common_steps)), (λ e. grind (arith, common_steps)))

same_shown : (b c : Book) (m : MemberId) → (0 < m.0 → is_stopped b m ≡ is_stopped c m) → shows_stopped b m ≡ shows_stopped c m
same_shown b c m same = elim (is_somebody m) as (λ z. is_somebody m ≡ z → (z && is_stopped b m) ≡ (z && is_stopped c m)) [ true ↦ λ e. same ((somebody m).0 e) | false ↦ λ e. refl ] refl

-- a member that stands otherwise, but isn't stopped otherwise
set_flag : (xs : List Standing) (i j : ℕ) (s d : Standing) → s.stopped ≡ (slice_index_or xs i d).stopped → (slice_index_or (slice_set xs i s) j d).stopped ≡ (slice_index_or xs j d).stopped
set_flag [] i j s d e = refl
set_flag (x ∷ xs) zero zero s d e = e
set_flag (x ∷ xs) zero (suc j) s d e = refl
set_flag (x ∷ xs) (suc i) zero s d e = refl
set_flag (x ∷ xs) (suc i) (suc j) s d e = set_flag xs i j s d e

shown_with : (b : Book) (m k : MemberId) (s : Standing) → s.stopped ≡ is_stopped b m → shows_stopped (with_standing b m s) k ≡ shows_stopped b k
shown_with b m k s e = same_shown (with_standing b m s) b k (λ pos. set_flag b.members (m.0 - 1) (k.0 - 1) s (beginner 0) e)

-- a place that isn't set is as it was
set_other : (xs : List Standing) (i j : ℕ) (s d : Standing) → i ≢ j → slice_index_or (slice_set xs i s) j d ≡ slice_index_or xs j d
set_other [] i j s d ne = refl
set_other (x ∷ xs) zero zero s d ne = absurd (ne refl)
set_other (x ∷ xs) zero (suc j) s d ne = refl
set_other (x ∷ xs) (suc i) zero s d ne = refl
set_other (x ∷ xs) (suc i) (suc j) s d ne = set_other xs i j s d (λ e. ne (ap suc e))

-- a list of flags, one of which is set
set_true : (xs : List Standing) (i j : ℕ) (s d : Standing) → s.stopped ≡ true → (slice_index_or xs j d).stopped ≡ true → (slice_index_or (slice_set xs i s) j d).stopped ≡ true
set_true [] i j s d e was = was
set_true (x ∷ xs) zero zero s d e was = e
set_true (x ∷ xs) zero (suc j) s d e was = was
set_true (x ∷ xs) (suc i) zero s d e was = was
set_true (x ∷ xs) (suc i) (suc j) s d e was = set_true xs i j s d e was

-- what one member has another doesn't have
not_other : (m k : MemberId) → k.0 ≢ m.0 → (is_somebody k && same_member m k) ≡ false
not_other m k ne = ap (λ z. is_somebody k && z) (ne_eqb m.0 k.0 (λ e. ne (sym e))) ∙ and_false (is_somebody k) where
  and_false : (z : Bool) → (z && false) ≡ false
  and_false true = refl
  and_false false = refl

-- nobody is no member
not_nobody : (b : Book) (k : MemberId) → b.holder.0 ≡ 0 → has_lock b k ≡ false
not_nobody b k none = elim (is_somebody k) as (λ z. is_somebody k ≡ z → (z && same_member b.holder k) ≡ false) [
  | true ↦ λ e. ne_eqb b.holder.0 k.0 (λ same. let pos : 0 < k.0 = (somebody k).0 e in absurd (omega arith))
  | false ↦ λ e. refl
] refl

pub holder_is : (b : Book) (k : MemberId) → has_lock b k ≡ true → b.holder.0 ≡ k.0
holder_is b k has = eqb-true b.holder.0 k.0 (both (is_somebody k) (same_member b.holder k) has).1

itself : (m : MemberId) → 0 < m.0 → (is_somebody m && same_member m m) ≡ true
itself m pos = ap (λ z. not z && same_member m m) (ne_eqb m.0 0 (λ e. absurd (omega arith))) ∙ eq-eqb m.0 m.0 refl

-- TRIES

free_lock : {X : Type 0} (s h y z : Bool) (a b c : X) → (s || h) ≡ false → is_some (if s then Some a else if h then None else if y then Some b else if z then Some c else None) ≡ false → y ≡ false
free_lock true h y z a b c e f = absurd (true_false true refl e)
free_lock false true y z a b c e f = absurd (true_false true refl e)
free_lock false false true z a b c e f = absurd (true_false true refl f)
free_lock false false false z a b c e f = refl

pub tries_cases : (b : Book) (m : MemberId) (inner : Bool) (P : Book → Type 0) → P b → P (ticked b inner) → (b.holder.0 ≡ 0 → P (granted (ticked b inner) m)) → P (after_try b m inner)
tries_cases b m inner P same tick grant =
    elim (is_stopped b m || is_holder b m) as (λ z. (is_stopped b m || is_holder b m) ≡ z → P (if z then b else if is_some (try_refusal b m inner) then ticked b inner else granted (ticked b inner) m)) [
      | true ↦ λ e. same
      | false ↦ λ e. elim (is_some (try_refusal b m inner)) as (λ z. is_some (try_refusal b m inner) ≡ z → P (if z then ticked b inner else granted (ticked b inner) m)) [
        | true ↦ λ f. tick
        | false ↦ λ f. grant ((somebody b.holder).1 (free_lock (is_stopped b m) (is_holder b m) (is_somebody b.holder) (is_dormant b m inner) lock.Down (lock.Busy b.holder) (lock.Dormant (wakes b m)) e f))
      ] refl
    ] refl

pub tries_stop : (b : Book) (m k : MemberId) (inner : Bool) → shows_stopped (after_try b m inner) k ≡ shows_stopped b k
tries_stop b m k inner = tries_cases b m inner (λ c. shows_stopped c k ≡ shows_stopped b k) refl refl (λ none. shown_with (with_holder (ticked b inner) m) m k (record (standing b m) { left = b.hold }) refl)

pub tries_lock : (b : Book) (m k : MemberId) (inner : Bool) → k.0 ≢ m.0 → has_lock (after_try b m inner) k ≡ has_lock b k
tries_lock b m k inner ne = tries_cases b m inner (λ c. has_lock c k ≡ has_lock b k) refl refl (λ none. not_other m k ne ∙ sym (not_nobody b k none))

-- a try that isn't refused
pub tries_hold : (b : Book) (m : MemberId) (inner : Bool) → 0 < m.0 → try_refusal b m inner ≡ None → has_lock (after_try b m inner) m ≡ true
tries_hold b m inner pos none =
    elim (is_stopped b m) as (λ z. is_stopped b m ≡ z → has_lock (if z || is_holder b m then b else if is_some (try_refusal b m inner) then ticked b inner else granted (ticked b inner) m) m ≡ true) [
      | true ↦ λ s. absurd (refused (sym none ∙ ap (λ z. if z then Some lock.Down else if is_holder b m then None else if is_somebody b.holder then Some (lock.Busy b.holder) else if is_dormant b m inner then Some (lock.Dormant (wakes b m)) else None) s))
      | false ↦ λ s. elim (is_holder b m) as (λ z. is_holder b m ≡ z → has_lock (if z then b else if is_some (try_refusal b m inner) then ticked b inner else granted (ticked b inner) m) m ≡ true) [
        | true ↦ λ h. ap (λ (n : ℕ). is_somebody m && (n == m.0)) (eqb-true b.holder.0 m.0 h) ∙ itself m pos
        | false ↦ λ h. ap (λ (z : Option LockNo). has_lock (if is_some z then ticked b inner else granted (ticked b inner) m) m) none ∙ itself m pos
      ] refl
    ] refl where
      refused : None ≡ Some lock.Down → ⊥
      refused e = true_false (is_some (Some lock.Down)) refl (sym (ap is_some e))

pub tries_held : (b was : Book) (m : MemberId) (inner : Bool) → b ≡ after_try was m inner → 0 < m.0 → try_refusal was m inner ≡ None → has_lock b m ≡ true
tries_held b was m inner is pos none = ap (λ c. has_lock c m) is ∙ tries_hold was m inner pos none

-- GIVING UP

pub frees_stop : (b : Book) (m k : MemberId) (inner : Bool) → is_holder b m ≡ true → shows_stopped (after_free b m inner) k ≡ shows_stopped b k
frees_stop b m k inner holds = ap (λ z. shows_stopped (if z then (if inner then with_holder b nobody else with_holder (noted b m) nobody) else b) k) holds ∙ given inner where
  given : (z : Bool) → shows_stopped (if z then with_holder b nobody else with_holder (noted b m) nobody) k ≡ shows_stopped b k
  given true = refl
  given false = shown_with b m k (record (standing b m) { freed = Some b.tick }) refl

pub frees_lock : (b : Book) (m k : MemberId) (inner : Bool) → is_holder b m ≡ true → k.0 ≢ m.0 → (has_lock (after_free b m inner) k ≡ false) × (has_lock b k ≡ false)
frees_lock b m k inner holds ne = (
  ap (λ z. has_lock (if z then (if inner then with_holder b nobody else with_holder (noted b m) nobody) else b) k) holds ∙ given inner,
  ap (λ z. is_somebody k && (z == k.0)) (eqb-true b.holder.0 m.0 holds) ∙ not_other m k ne,
) where
  given : (z : Bool) → has_lock (if z then with_holder b nobody else with_holder (noted b m) nobody) k ≡ false
  given true = not_nobody (with_holder b nobody) k refl
  given false = not_nobody (with_holder (noted b m) nobody) k refl

-- STOPS

pub stops_still : (b : Book) (m k : MemberId) → shows_stopped b k ≡ true → shows_stopped (after_stop b m) k ≡ true
stops_still b m k was = elim (is_somebody k) as (λ z. (z && is_stopped b k) ≡ true → (z && is_stopped (after_stop b m) k) ≡ true) [
  | true ↦ λ e. set_true b.members (m.0 - 1) (k.0 - 1) (record (standing b m) { stopped = true }) (beginner 0) refl e
  | false ↦ λ e. e
] was

pub stops_others : (b : Book) (m k : MemberId) → 0 < m.0 → k.0 ≢ m.0 → shows_stopped (after_stop b m) k ≡ shows_stopped b k
stops_others b m k pos ne = same_shown (after_stop b m) b k (λ kpos. ap (λ (s : Standing). s.stopped) (set_other b.members (m.0 - 1) (k.0 - 1) (record (standing b m) { stopped = true }) (beginner 0) (λ e. absurd (let n : k.0 ≢ m.0 = ne in omega arith))))

-- TAKEOVER

stopped_holder : {X : Type 0} (s h : Bool) (a b : X) → is_some (if not s then Some a else if h then None else Some b) ≡ false → (s ≡ true) × (h ≡ true)
stopped_holder true true a b e = (refl, refl)
stopped_holder true false a b e = absurd (true_false true refl e)
stopped_holder false h a b e = absurd (true_false true refl e)

seizes_cases : (b : Book) (m of : MemberId) (P : Book → Type 0) → P b → (is_stopped b of ≡ true → is_holder b of ≡ true → P (granted b m)) → P (after_seize b m of)
seizes_cases b m of P same grant = elim (is_some (seize_refusal b of)) as (λ z. is_some (seize_refusal b of) ≡ z → P (if z then b else granted b m)) [
  | true ↦ λ e. same
  | false ↦ λ e. let h = stopped_holder (is_stopped b of) (is_holder b of) seized.StillUp (seized.NotHolder b.holder) e in grant h.0 h.1
] refl

pub seizes_stop : (b : Book) (m of k : MemberId) → shows_stopped (after_seize b m of) k ≡ shows_stopped b k
seizes_stop b m of k = seizes_cases b m of (λ c. shows_stopped c k ≡ shows_stopped b k) refl (λ s h. shown_with (with_holder b m) m k (record (standing b m) { left = b.hold }) refl)

-- the lock of a member that is up isn't taken over
pub seizes_lock : (b : Book) (m of k : MemberId) → k.0 ≢ m.0 → shows_stopped b k ≡ false → has_lock (after_seize b m of) k ≡ has_lock b k
seizes_lock b m of k ne up = seizes_cases b m of (λ c. has_lock c k ≡ has_lock b k) refl (λ s h. not_other m k ne ∙ sym (lost s h)) where
  shown : (is_somebody k ≡ true) × (same_member b.holder k ≡ true) → is_stopped b of ≡ true → is_holder b of ≡ true → shows_stopped b k ≡ true
  shown t s h = let same : k.0 ≡ of.0 = sym (eqb-true b.holder.0 k.0 t.1) ∙ eqb-true b.holder.0 of.0 h in
      ap (λ z. z && is_stopped b k) t.0 ∙ (ap (λ (n : ℕ). is_stopped b (record { 0 = n })) same ∙ s)

  lost : is_stopped b of ≡ true → is_holder b of ≡ true → has_lock b k ≡ false
  lost s h = not_true (has_lock b k) (λ t. true_false (shows_stopped b k) (shown (both (is_somebody k) (same_member b.holder k) t) s h) up)

-- HOLD

pub spends_stop : (b : Book) (m k : MemberId) (commands : ℕ) → shows_stopped (after_spend b m commands) k ≡ shows_stopped b k
spends_stop b m k commands = shown_with b m k (record (standing b m) { left = left_of b m - commands }) refl
