-- A step goes on after a piece: its member may play the next one, and is at its seat if it has the lock still.
use Rattle.std.proofs.Common.{◌≡◌, ◌≢◌, ◌⊎◌, ℕ, ◌≤◌, true, false, List, [], length, Option, None, Ok, refl, sym, ap, ◌∙◌, subst, arith}
use Rattle.mas_types.specs.declared.ids.MemberId.{MemberId}
use Rattle.mas_types.specs.declared.queues.Queue.{Queue}
use Rattle.mas_types.specs.Ids.{nobody}
use Rattle.mas_types.specs.Queue.{is_member}
use Rattle.mas_types.specs.Run.{run}
use Rattle.mas_types.specs.Sound.{IsSound}
use Rattle.lock_cycle.specs.Books.{Book, IsMember, after_spend, is_stopped}
use Rattle.spool_plant.specs.View.{View}
use Rattle.spool_plant.specs.declared.plant.Plant.{Ghosts as PlantGhosts}
use Rattle.ckpt_tables.specs.Shape.{page_count}
use Rattle.ckpt_copy.specs.declared.copying.Copying.{Ghosts as CopyGhosts}
use Rattle.mas_complex.specs.Locking.{MayAct}
use Rattle.mas_complex.specs.Parts.{Parts}
use Rattle.member_node.specs.declared.member.Member.{Member}
use Rattle.member_steps.proofs.FateLemmas.{kept_from_later}
use Rattle.member_steps.proofs.ReadLemmas.{pages_of_run}
use Rattle.step_turns.specs.Entries.{all_entries}
use Rattle.step_turns.specs.declared.states.Found.{Found}
use Rattle.step_turns.specs.declared.states.Grant.{Grant}
use Rattle.step_turns.specs.declared.states.Grant.TheVariants.{ByLock, ForStep}
use Rattle.step_turns.specs.declared.states.Release.{Release}
use Rattle.step_turns.specs.declared.states.State.{State}
use Rattle.step_turns.specs.declared.states.State.TheVariants.{Away, Fresh, Rested, Told}
use Rattle.run_turns.specs.Pieces.{entered}
use Rattle.member_sittings.specs.declared.ends.SittingEnd.{SittingEnd}
use Rattle.member_sittings.specs.Sat.{Start}
use Rattle.member_sittings.specs.Whole.{HasStepKept, IsLeftIn, IsSeat, IsSitting, queue_of}
use Rattle.member_hand.specs.Asides.{ActsAfter, IfAway, MayActAfter}
use Rattle.member_hand.specs.Locks.{IsToLeave, IsUnlocked, MayHold, left_book, next_holder}
use Rattle.member_hand.specs.Quiet.{IsAside, IsSeatedBy, MayGoOn}
use Rattle.member_hand.specs.Sits.{AreFewUnits, GoesOn, IsFoundRight, LeavesStep, WaitsWell}
use Rattle.member_hand.specs.Turns.{HasTurned}
use Rattle.member_hand.proofs.Acting.{ActsBeside, acts_beside, asided, aside_then, changed_only, may_act, only_these, seat_then, unreserved_by}
use Rattle.member_hand.proofs.Entering.{entered_seated}
use Rattle.member_hand.proofs.Finding.{right_at}
use Rattle.member_hand.proofs.Locking.{acts_entered, inner_by, left_members, released_within, spent_acts, still_holds, within_free, within_unlocked, within_up}
use Rattle.member_hand.proofs.Seating.{untold_on}
use Rattle.member_hand.proofs.StepKinds.{few_after}

-- A MEMBER THAT SAT is at its seat, and its step untold unless it is told

module _ {P C : Type 0} (plants : PlantGhosts P) (copies : CopyGhosts C) where
  pub seat_of : (s : State) (y : Parts P C) (m : Member) (at : ℕ) → IsLeftIn plants copies s y m at → IsSeat plants copies y m
  seat_of Told y m at sits = sits
  seat_of (Fresh task) y m at sits = sits.seat
  seat_of (Away aside) y m at sits = sits.seat
  seat_of (Rested p) y m at sits = sits.seat

  sitting_of : (s : State) (y : Parts P C) (m : Member) (at : ℕ) → s ≢ Told → IsLeftIn plants copies s y m at → IsSitting plants copies y m at
  sitting_of Told y m at ne sits = absurd (ne refl)
  sitting_of (Fresh task) y m at ne sits = sits
  sitting_of (Away aside) y m at ne sits = sits
  sitting_of (Rested p) y m at ne sits = sits

-- what is asked in acts that a step waits for is asked before it is told
if_away : (s : State) (A : Type 0) → (s ≢ Told → A) → IfAway s A
if_away (Away aside) A f = f (λ e. absurd (cc))
if_away (Fresh task) A f = tt
if_away (Rested p) A f = tt
if_away Told A f = tt

module _ {P C : Type 0} (plants : PlantGhosts P) (copies : CopyGhosts C) (s : Start) (x y : Parts P C) (end : SittingEnd) (turn : HasTurned plants s x y end) (m : Member) (go : MayGoOn plants copies x m s.holder s.state)
    (n : Member) (same : n.id ≡ m.id) (book : y.book ≡ entered x.book s.holder.by) (leaves : LeavesStep plants copies x y n s end) where
  abbrev me : MemberId
  me = s.holder.by

  abbrev v : Parts P C → View
  v q = plants.view q.plant

  mine : me ≡ n.id
  mine = go.holder ∙ sym same

  pub may : MayHold x.book me
  may = subst (MayHold x.book) (sym go.holder) go.hold

  pub seat : IsSeat plants copies y n
  seat = seat_of plants copies end.next y n s.holder.step leaves.sits

  base_is : y.base ≡ x.base
  base_is = ap (λ (q : Parts P C). q.base) turn.frame ∙ ap (λ (q : Parts P C). q.base) turn.locked

  abbrev left : Parts P C
  left = record y { book = left_book y.book me end.given end.release }

  acts_y : MayAct y.book me
  acts_y = subst (λ (b : Book). MayAct b me) (sym book) (acts_entered x.book me may)

  seated_y : IsMember y.book me
  seated_y = subst (λ (b : Book). IsMember b me) (sym book) (entered_seated x.book me may.seated)

  seated_left : IsMember left.book me
  seated_left = (seated_y.0, subst (λ (k : ℕ). me.0 ≤ k) (sym (left_members y.book me end.given end.release)) seated_y.1)

  -- within its step the lock is left as its holder had it
  within : end.next ≢ Told → end.release ≡ inner_by s.holder.grant
  within ne =
      let sat = turn.sat.sat in
      sat.ends.release ∙ turn.sat.shaped.release
      ∙ released_within s.holder.grant s.holder.hold (length (all_entries turn.sat.sitting.batches)) turn.sat.sitting.next (λ is. ne (sat.ends.next ∙ is))

  up_left : end.next ≢ Told → is_stopped left.book me ≡ false
  up_left ne = subst (λ (r : Release). is_stopped (left_book y.book me end.given r) me ≡ false) (sym (within ne)) (within_up y.book me end.given acts_y seated_y s.holder.grant)

  -- its room is as long as it was
  pub room_same : length n.room ≡ length m.room
  room_same =
      sym (pages_of_run y.base [] n.checkpoint n.room seat.still.config seat.between.drawn seat.still.many)
      ∙ ap (λ (q : Queue). page_count (run q []).config) base_is
      ∙ pages_of_run x.base [] m.checkpoint m.room go.aside.config go.aside.idle.drawn go.aside.idle.many

  -- IT MAY LEAVE THE LOCK, or keep it

  pub may_leave : IsToLeave y me
  may_leave = record {
    may = acts_y;
    some = may.some;
    seated = seated_y;
    none = seat.still.none;
    unreserved = seat.still.unreserved;
  }

  pub few_next : AreFewUnits s.state → AreFewUnits end.next
  few_next few = few_after s.state end.next leaves.goes.comes leaves.goes.few few

  -- IT MAY DO THE ACTS that the step waits for

  pub unlocked : IfAway end.next (IsUnlocked s.holder.grant left.book n.id)
  unlocked = if_away end.next (IsUnlocked s.holder.grant left.book n.id) (λ ne.
      subst (λ (i : MemberId). IsUnlocked s.holder.grant left.book i) mine
      (subst (λ (r : Release). IsUnlocked s.holder.grant (left_book y.book me end.given r) me) (sym (within ne)) (within_unlocked y.book me end.given acts_y seated_y s.holder.grant)))

  acts_in : (t : State) → t ≡ end.next → WaitsWell plants.tells (queue_of y) n t → MayActAfter plants left n t
  acts_in Told is w = tt
  acts_in (Fresh task) is w = tt
  acts_in (Rested p) is w = tt
  acts_in (Away aside) is w =
      may_act plants copies y n left.book seat (λ t. subst IsSound (sym base_is) (go.base_sound t))
      (subst (λ (i : MemberId). is_stopped left.book i ≡ false) mine (up_left (λ told. absurd (let no = is ∙ told in cc))))
      (subst (IsMember left.book) mine seated_left) (Away aside) w

  pub may_act_then : MayActAfter plants left n end.next
  may_act_then = acts_in end.next refl leaves.waits

  -- THE STEP GOES ON

  module _ (u : Parts P C) (was is : Option (List ℕ)) (found : Found) (acts : ActsAfter plants left u n end.next was is (Ok found)) (hold : ℕ) where
    beside : ActsBeside plants.tells n.id.0 (v left) (v u) (Ok found)
    beside = acts_beside plants copies left u n end.next was is (Ok found) acts

    changed : u ≡ asided u y
    changed = only_these (Ok found) n.id left u (changed_only plants copies left u n end.next was is (Ok found) acts)

    unreserved : u.reserved ≡ None
    unreserved = unreserved_by (Ok found) n.id left u (changed_only plants copies left u n end.next was is (Ok found) acts) seat.still.unreserved

    pub aside_next : IsAside plants copies u n
    aside_next = aside_then plants copies y u n seat changed beside.beside unreserved

    book_u : u.book ≡ left.book
    book_u = ap (λ (q : Parts P C). q.book) (changed_only plants copies left u n end.next was is (Ok found) acts)

    base_u : u.base ≡ y.base
    base_u = ap (λ (q : Parts P C). q.base) changed

    member_y : is_member y.base.config n.id ≡ true
    member_y = seat.still.holds.member

    -- a member that has the lock still is at its seat
    pub seat_next : u.book.holder ≡ me → IsSeat plants copies u n
    seat_next holds =
        let spent : u.book ≡ after_spend y.book me end.given = book_u ∙ still_holds y.book me end.given acts_y seated_y end.release may.some (ap (λ (b : Book). b.holder) (sym book_u) ∙ holds) in
        seat_then plants copies y u n seat changed beside.beside unreserved (record {
          may = subst (λ (b : Book). MayAct b n.id) (sym spent) (subst (λ (i : MemberId). MayAct (after_spend y.book me end.given) i) mine (spent_acts y.book me end.given acts_y seated_y));
          some = seat.still.holds.some;
          few = seat.still.holds.few;
          seated = subst (λ (b : Book). IsMember b n.id) (sym book_u) (subst (IsMember left.book) mine seated_left);
          member = member_y;
        })

    seated_by : (g : Grant) → g ≡ s.holder.grant → end.next ≢ Told → IsSeatedBy plants copies g u n
    seated_by ForStep is ne = tt
    seated_by ByLock is ne =
        seat_next (ap (λ (b : Book). b.holder) book_u ∙ ap (λ (r : Release). (left_book y.book me end.given r).holder) (within ne ∙ ap inner_by (sym is)) ∙ acts_y.holds)

    pub goes_next : end.next ≢ Told → MayGoOn plants copies u n (next_holder s.holder hold end.given) end.next
    goes_next ne =
        let sits = sitting_of plants copies end.next y n s.holder.step ne leaves.sits in
        let before = go.level in
        let level = leaves.goes.level in
        let falls = leaves.goes.falls in
        let same_level : u.level ≡ y.level = ap (λ (q : Parts P C). q.level) changed in
        record {
          aside = aside_next;
          hold = subst (λ (b : Book). MayHold b n.id) (sym book_u) (subst (MayHold left.book) mine (record {
            some = may.some;
            few = may.few;
            seated = seated_left;
            up = up_left ne;
            free = subst (λ (r : Release). ((left_book y.book me end.given r).holder ≡ me) ⊎ ((left_book y.book me end.given r).holder ≡ nobody)) (sym (within ne)) (within_free y.book me end.given acts_y seated_y s.holder.grant);
          }));
          member = subst (λ (b : Queue). is_member b.config n.id ≡ true) (sym base_u) member_y;
          base_sound = λ t. subst IsSound (sym (base_u ∙ base_is)) (go.base_sound t);
          untold = untold_on plants copies y u n.id n.id s.holder.step refl base_u (ap (λ (q : Parts P C). q.since) changed) seat.still.begun beside.beside.goes beside.beside.console sits.untold;
          step = subst (λ (q : Parts P C). HasStepKept plants copies q n.id s.holder.step) (sym changed) (kept_from_later n.id s.holder.step y.batches (v y).now (v u).now beside.beside.goes.later sits.step);
          seat = seated_by s.holder.grant refl ne;
          level = omega (arith, before, level, falls, same_level);
          holder = mine;
        }

    pub right_next : end.next ≢ Told → IsFoundRight plants copies u n.id end.next found
    right_next ne = right_at plants copies y left.book u n seat end.next was is found ne (ap (λ (q : Parts P C). queue_of q) changed) base_u leaves.waits acts

    pub level_next : GoesOn s.state end.next x.level u.level
    level_next = subst (λ (l : ℕ). GoesOn s.state end.next x.level l) (sym (ap (λ (q : Parts P C). q.level) changed)) leaves.goes
