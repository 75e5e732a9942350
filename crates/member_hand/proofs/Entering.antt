-- A member that may go on with a step may take its seat, and sit.
use Rattle.std.proofs.Common.{◌≡◌, ℕ, ◌-◌, ◌<◌, ◌≤◌, List, None, Option, Bool, true, false, ◌||◌, if◌then◌else◌, is_some, length, refl, sym, ap, subst, arith}
use Rattle.std.proofs.lemmas.List.{length-set}
use Rattle.mas_types.specs.declared.ids.MemberId.{MemberId}
use Rattle.mas_types.specs.declared.journals.Entry.{Entry}
use Rattle.mas_types.specs.declared.queues.Config.{Config}
use Rattle.mas_types.specs.declared.jobs.Text.TheVariants.{Whole}
use Rattle.mas_types.specs.Sound.{IsSound}
use Rattle.lock_cycle.specs.Books.{Book, IsMember, granted, is_holder, is_stopped, ticked, try_refusal}
use Rattle.spool_plant.specs.declared.plant.Plant.{Ghosts as PlantGhosts}
use Rattle.ckpt_copy.specs.declared.copying.Copying.{Ghosts as CopyGhosts}
use Rattle.mas_complex.specs.Parts.{Parts}
use Rattle.mas_complex.specs.Texts.{IsThere, Spools, spools_at}
use Rattle.member_node.specs.declared.member.Member.{Member}
use Rattle.member_node.specs.Reads.{too_high}
use Rattle.step_turns.specs.declared.states.Found.{Found}
use Rattle.step_turns.specs.declared.states.Grant.{Grant}
use Rattle.step_turns.specs.declared.states.Grant.TheVariants.{ByLock, ForStep}
use Rattle.step_turns.specs.declared.states.Holder.{Holder}
use Rattle.step_turns.specs.declared.states.State.{State}
use Rattle.step_turns.specs.declared.states.Aside.TheVariants.{Acknowledge, Exchange, PrintLines, ReadText, SpoolArrival, SpoolDeck, SpoolOutputs}
use Rattle.step_turns.specs.declared.states.State.TheVariants.{Away, Fresh, Rested, Told}
use Rattle.run_turns.specs.Pieces.{entered}
use Rattle.member_sittings.specs.Asides.{lowest_groups}
use Rattle.member_sittings.specs.Gates.{IsAtGate, IsOpen}
use Rattle.member_sittings.specs.Sat.{Start, seated_in}
use Rattle.member_sittings.specs.Whole.{HoldsLock, IsSeat, IsToSit, first_half, queue_of, second_half}
use Rattle.member_frames.specs.Ready.{AreStanding}
use Rattle.member_hand.specs.Enters.{IsBeforeSeat, IsToEnter}
use Rattle.member_hand.specs.Quiet.{IsAside, IsQuiet, IsSeatedBy, MayGoOn}
use Rattle.member_hand.specs.Sits.{AreFewUnits, IsFoundRight, IsToSitFrom}
use Rattle.member_hand.specs.Turns.{taken}
use Rattle.member_hand.proofs.Locking.{acts_entered}

-- NO TRY CHANGES THE NUMBER OF MEMBERS

length_either : (x y : Bool) (b c d : Book) → length c.members ≡ length b.members → length d.members ≡ length b.members → length (if x then b else if y then c else d).members ≡ length b.members
length_either true y b c d ec ed = refl
length_either false true b c d ec ed = ec
length_either false false b c d ec ed = ed

pub entered_members : (b : Book) (by : MemberId) → length (entered b by).members ≡ length b.members
entered_members b by =
    length_either (is_stopped b by || is_holder b by) (is_some (try_refusal b by true)) b (ticked b true) (granted (ticked b true) by) refl (length-set b.members (by.0 - 1) _)

pub entered_seated : (b : Book) (by : MemberId) → IsMember b by → IsMember (entered b by) by
entered_seated b by seated = (seated.0, subst (λ (k : ℕ). by.0 ≤ k) (sym (entered_members b by)) seated.1)

-- BY ANOTHER BOOK, in which the member holds the lock

module _ {P C : Type 0} (plants : PlantGhosts P) (copies : CopyGhosts C) (x : Parts P C) (m : Member) (b : Book) (holds : HoldsLock b x.base.config m.id) where
  -- one that may take its seat is at the gate
  pub gate_with : IsAside plants copies x m → x.level < too_high → IsAtGate plants copies (record x { book = b }) m
  gate_with aside level =
      let q = aside.quiet in
      record {
        holds = holds;
        at_lock = record { none = q.none; unplaced = q.unplaced; nothing = aside.idle.nothing; drawn = aside.idle.drawn; many = aside.idle.many };
        unreserved = q.unreserved;
        first = subst (λ (c : Config). IsOpen plants.tells (first_half plants copies x) c (length x.batches) (length m.room)) aside.config q.first;
        second = subst (λ (c : Config). IsOpen plants.tells (second_half plants copies x) c (length x.batches) (length m.room)) aside.config q.second;
        sound = q.sound;
        config = aside.config;
        kept = q.kept;
        begun = q.begun;
        roomy = q.roomy;
        noted = aside.noted;
        level = level;
      }

  -- and one that has its seat has it still, where nothing is reserved
  pub seat_with : (o : Option (List Entry)) → o ≡ None → IsSeat plants copies x m → IsSeat plants copies (record x { book = b; reserved = o }) m
  seat_with o unreserved seat = assumption (holds, unreserved, seat)

-- another book, where nothing is reserved, leaves the value as quiet
pub quiet_with : {P C : Type 0} (plants : PlantGhosts P) (copies : CopyGhosts C) (x : Parts P C) (b : Book) (o : Option (List Entry)) → o ≡ None → (pages : ℕ) → IsQuiet plants copies x pages
    → IsQuiet plants copies (record x { book = b; reserved = o }) pages
quiet_with plants copies x b o unreserved pages quiet = assumption (unreserved, quiet)

module _ {P C : Type 0} (plants : PlantGhosts P) (copies : CopyGhosts C) (x : Parts P C) (m : Member) (h : Holder) (s : State) (go : MayGoOn plants copies x m h s) where
  -- IT MAY TAKE ITS SEAT once it has the lock

  abbrev here : Parts P C
  here = taken m.id x

  holds : HoldsLock here.book x.base.config m.id
  holds = record { may = acts_entered x.book m.id go.hold; some = go.hold.some; few = go.hold.few; seated = entered_seated x.book m.id go.hold.seated; member = go.member }

  at_gate : IsAtGate plants copies here m
  at_gate = let level = go.level in gate_with plants copies x m here.book holds go.aside (omega (arith, level))

  -- one that has it by LOCK is at its seat still
  seat_here : IsSeat plants copies x m → IsSeat plants copies here m
  seat_here seat = seat_with plants copies x m here.book holds x.reserved seat.still.unreserved seat

  before_seat : (g : Grant) → IsSeatedBy plants copies g x m → IsBeforeSeat plants copies g here m
  before_seat ForStep seat = at_gate
  before_seat ByLock seat = let level = go.level in record { seat = seat_here seat; level = omega (arith, level) }

  enters : IsToEnter plants copies here m h
  enters = record { gate = before_seat h.grant go.seat; untold = go.untold; step = go.step; holder = go.holder }

  pub to_enter : (z : Parts P C) → z ≡ taken h.by x → IsToEnter plants copies z m h
  to_enter z frame =
      subst (λ (q : Parts P C). IsToEnter plants copies q m h) (sym frame) (subst (λ (i : MemberId). IsToEnter plants copies (taken i x) m h) (sym go.holder) enters)

-- ITS SITTING MAY BEGIN with what it found: the seat changes no volume

module _ {P C : Type 0} (plants : PlantGhosts P) (copies : CopyGhosts C) (x z : Parts P C) (by : MemberId) (frame : z ≡ seated_in z (taken by x))
    (same : plants.tells → spools_at (plants.view z.plant) (plants.view z.plant).now ≡ spools_at (plants.view x.plant) (plants.view x.plant).now) where
  abbrev now : Parts P C
  now = seated_in z (taken by x)

  right_now : (me : MemberId) (s : State) (found : Found) → IsFoundRight plants copies x me s found → IsFoundRight plants copies now me s found
  right_now me (Fresh task) found r = r
  right_now me (Away (SpoolDeck n text)) found r =
      (r.0, r.1, λ none t. subst (λ (d : Spools). IsThere d x.base.config.groups (Whole text) (lowest_groups me (queue_of x).owners text)) (sym (same t)) (r.2 none t))
  right_now me (Away (ReadText runs n fields p)) found r = r
  right_now me (Away (SpoolOutputs n specs p)) found r = (r.0, r.1, λ none t. subst (λ (d : Spools). AreStanding d (queue_of x) me n specs) (sym (same t)) (r.2 none t))
  right_now me (Away (PrintLines n i last p)) found r = r
  right_now me (Away (Exchange l offer)) found r = r
  right_now me (Away (SpoolArrival number job cards service)) found r =
      (r.0, r.1, r.2, r.3, λ none t. subst (λ (d : Spools). IsThere d x.base.config.groups (Whole cards) (lowest_groups me (queue_of x).owners cards)) (sym (same t)) (r.4 none t))
  right_now me (Away (Acknowledge number service)) found r = r
  right_now me (Rested p) found r = r
  right_now me Told found r = r

  right_seat : (me : MemberId) (s : State) (found : Found) → IsFoundRight plants copies x me s found → IsFoundRight plants copies z me s found
  right_seat me s found r = subst (λ (q : Parts P C). IsFoundRight plants copies q me s found) (sym frame) (right_now me s found r)

  pub to_sit : (m n : Member) (s : Start) → n.id ≡ m.id → MayGoOn plants copies x m s.holder s.state → IsFoundRight plants copies x m.id s.state s.found → AreFewUnits s.state → IsToSit plants copies z n s.holder → IsToSitFrom plants copies z n s
  to_sit m n s own go right few sits = record {
    sits = sits;
    base_sound = λ t. subst IsSound (sym (ap (λ (q : Parts P C). q.base) frame)) (go.base_sound t);
    right = right_seat n.id s.state s.found (subst (λ (i : MemberId). IsFoundRight plants copies x i s.state s.found) (sym own) right);
    few = few;
    level = let same_level = ap (λ (q : Parts P C). q.level) frame in let low = go.level in omega (arith, same_level, low);
  }
