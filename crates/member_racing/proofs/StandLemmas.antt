-- How a line stands after a sitting of its step: it waits for what the step waits for.
use Rattle.std.proofs.Common.{◌≡◌, ◌≢◌, ◌∙◌, ◌≤◌, ℕ, true, false, length, Option, None, ap, refl, subst, sym}
use Rattle.mas_types.specs.declared.journals.Batch.{Batch}
use Rattle.mas_types.specs.declared.ids.MemberId.{MemberId}
use Rattle.mas_types.specs.declared.queues.Queue.{Queue}
use Rattle.mas_types.specs.Sound.{IsSound}
use Rattle.lock_cycle.specs.Books.{Book, IsMember, is_stopped}
use Rattle.spool_plant.specs.declared.plant.Plant.{Ghosts as PlantGhosts}
use Rattle.ckpt_copy.specs.declared.copying.Copying.{Ghosts as CopyGhosts}
use Rattle.mas_complex.specs.Locking.{MayAct}
use Rattle.mas_complex.specs.Parts.{Parts}
use Rattle.race_turns.specs.Turns.{Acts, Closed, Sits, racer, stage_after}
use Rattle.run_turns.specs.Pieces.{entered}
use Rattle.step_turns.specs.Entries.{all_entries}
use Rattle.step_turns.specs.Sittings.{released}
use Rattle.step_turns.specs.States.{nothing_found}
use Rattle.step_turns.specs.declared.states.Release.{Release}
use Rattle.step_turns.specs.Laws.{on_line}
use Rattle.step_turns.specs.declared.states.Grant.{Grant}
use Rattle.step_turns.specs.declared.states.Grant.TheVariants.{ForStep}
use Rattle.step_turns.specs.declared.states.Holder.{Holder}
use Rattle.step_turns.specs.declared.states.State.{State}
use Rattle.step_turns.specs.declared.states.State.TheVariants.{Away, Fresh, Rested, Told}
use Rattle.step_turns.specs.declared.states.Aside.TheVariants.{Acknowledge, Exchange, PrintLines, ReadText, SpoolArrival, SpoolDeck, SpoolOutputs}
use Rattle.step_turns.specs.declared.states.Task.TheVariants.{Deck, Give, Line, Work}
use Rattle.track_groups.specs.Groups.{held_by}
use Rattle.member_resets.specs.Asides.{MayActAfter}
use Rattle.member_resets.specs.Locks.{MayHold, left_book, next_holder}
use Rattle.member_resets.specs.Sits.{AreFewUnits, ComesTo, WaitsWell}
use Rattle.member_resets.specs.Stand.{Stand}
use Rattle.member_resets.proofs.Entering.{entered_seated}
use Rattle.member_resets.proofs.Acting.{may_act}
use Rattle.member_resets.proofs.Going.{seat_of}
use Rattle.member_resets.proofs.StepKinds.{few_after}
use Rattle.member_resets.proofs.Locking.{acts_entered, inner_by, left_members, released_within, within_up}
use Rattle.member_node.specs.declared.member.Member.{Member}
use Rattle.member_sittings.specs.declared.ends.SittingEnd.{SittingEnd}
use Rattle.member_sittings.specs.Sat.{Start}
use Rattle.member_sittings.specs.Whole.{IsSeat, queue_of}
use Rattle.member_racing.specs.Kinds.{SitsOut, stand_after}
use Rattle.member_racing.specs.Stages.{IsStageOf, stage_of}
use Rattle.member_racing.specs.Waits.{GoesOnIn, IsMine, IsStillRight, MayActNext, WaitsAt, is_begun}
use Rattle.member_racing.specs.declared.stages.Stage.{Stage as Stands}
use Rattle.member_racing.specs.declared.stages.Stage.TheVariants as line

-- A STEP THAT WAS BEGUN stays so

begun_next : (s next : State) → next ≢ Told → ComesTo s next → is_begun next ≡ true
begun_next s (Fresh task) ne comes = absurd comes
begun_next s (Away aside) ne comes = refl
begun_next s (Rested p) ne comes = refl
begun_next s Told ne comes = absurd (ne refl)

-- A STEP THAT SERVES NO LINE never does

off_next : (s next : State) → on_line s ≡ false → ComesTo s next → on_line next ≡ false
off_next s Told off comes = refl
off_next s (Fresh task) off comes = absurd comes
off_next s (Rested p) off comes = refl
off_next s (Away (SpoolDeck n text)) off comes = refl
off_next s (Away (ReadText runs n fields p)) off comes = refl
off_next s (Away (SpoolOutputs n specs p)) off comes = refl
off_next s (Away (PrintLines n i last p)) off comes = refl
off_next s (Away (Exchange l offer)) off comes = no_task s off comes where
  no_task : (s : State) → on_line s ≡ false → ComesTo s (Away (Exchange l offer)) → on_line (Away (Exchange l offer)) ≡ false
  no_task (Fresh (Line k)) off comes = absurd (cc)
  no_task (Fresh (Give c)) off comes = absurd comes
  no_task (Fresh (Deck fields text)) off comes = absurd comes
  no_task (Fresh (Work n)) off comes = absurd comes
  no_task (Away a) off comes = absurd comes
  no_task (Rested p) off comes = absurd comes
  no_task Told off comes = absurd comes
off_next s (Away (SpoolArrival number job cards service)) off comes = no_serving s off comes where
  no_serving : (s : State) → on_line s ≡ false → ComesTo s (Away (SpoolArrival number job cards service)) → on_line (Away (SpoolArrival number job cards service)) ≡ false
  no_serving (Fresh (Line k)) off comes = absurd (cc)
  no_serving (Fresh (Give c)) off comes = absurd comes
  no_serving (Fresh (Deck fields text)) off comes = absurd comes
  no_serving (Fresh (Work n)) off comes = absurd comes
  no_serving (Away (SpoolDeck n text)) off comes = absurd comes
  no_serving (Away (ReadText runs n fields p)) off comes = absurd comes
  no_serving (Away (SpoolOutputs n specs p)) off comes = absurd comes
  no_serving (Away (PrintLines n i last p)) off comes = absurd comes
  no_serving (Away (Exchange l offer)) off comes = absurd (cc)
  no_serving (Away (SpoolArrival k job text v)) off comes = absurd (cc)
  no_serving (Away (Acknowledge k v)) off comes = absurd (cc)
  no_serving (Rested p) off comes = absurd comes
  no_serving Told off comes = absurd comes
off_next s (Away (Acknowledge number service)) off comes = no_serving s off comes where
  no_serving : (s : State) → on_line s ≡ false → ComesTo s (Away (Acknowledge number service)) → on_line (Away (Acknowledge number service)) ≡ false
  no_serving (Fresh (Line k)) off comes = absurd (cc)
  no_serving (Fresh (Give c)) off comes = absurd comes
  no_serving (Fresh (Deck fields text)) off comes = absurd comes
  no_serving (Fresh (Work n)) off comes = absurd comes
  no_serving (Away (SpoolDeck n text)) off comes = absurd comes
  no_serving (Away (ReadText runs n fields p)) off comes = absurd comes
  no_serving (Away (SpoolOutputs n specs p)) off comes = absurd comes
  no_serving (Away (PrintLines n i last p)) off comes = absurd comes
  no_serving (Away (Exchange l offer)) off comes = absurd (cc)
  no_serving (Away (SpoolArrival k job text v)) off comes = absurd (cc)
  no_serving (Away (Acknowledge k v)) off comes = absurd (cc)
  no_serving (Rested p) off comes = absurd comes
  no_serving Told off comes = absurd comes

-- WHAT ITS MEMBER WAITS FOR is its own

module _ {P C : Type 0} (plants : PlantGhosts P) (copies : CopyGhosts C) (y : Parts P C) (n : Member) (seat : IsSeat plants copies y n) where
  pub mine_waits : (s : State) → WaitsWell plants.tells (queue_of y) n s → plants.tells → IsMine (queue_of y) n.id s
  mine_waits (Away (ReadText runs k fields p)) w t = w.1.under_way (queue_of y) (seat.between.queue t) (seat.between.sound t)
  mine_waits (Away (SpoolOutputs k specs p)) w t = w.job t
  mine_waits (Away (PrintLines k i last p)) w t = w.printing (queue_of y) (seat.between.queue t) (seat.between.sound t)
  mine_waits (Away (SpoolDeck k text)) w t = tt
  mine_waits (Away (Exchange l offer)) w t = tt
  mine_waits (Away (SpoolArrival number job cards service)) w t = tt
  mine_waits (Away (Acknowledge number service)) w t = tt
  mine_waits (Fresh task) w t = tt
  mine_waits (Rested p) w t = tt
  mine_waits Told w t = tt

module _ {P C : Type 0} (plants : PlantGhosts P) (copies : CopyGhosts C) (s : Start) (x y : Parts P C) (n : Member) (at : ℕ) (next : Stands) (o : SitsOut plants copies s x y n next) (hold_may : MayHold x.book s.holder.by) (sound : plants.tells → IsSound x.base)
    (off : on_line s.state ≡ false) (few : AreFewUnits s.state) (holder : s.holder ≡ racer x.base.config n.id at) where
  abbrev there : Parts P C
  there = o.there

  abbrev end : SittingEnd
  end = o.end

  seat : IsSeat plants copies there n
  seat = seat_of plants copies end.next there n s.holder.step o.on.sits

  book : there.book ≡ entered x.book s.holder.by
  book = ap (λ (q : Parts P C). q.book) o.turn.frame ∙ ap (λ (q : Parts P C). q.book) o.turn.locked

  base_there : there.base ≡ x.base
  base_there = ap (λ (q : Parts P C). q.base) o.turn.frame ∙ ap (λ (q : Parts P C). q.base) o.turn.locked

  base : y.base ≡ x.base
  base = ap (λ (q : Parts P C). q.base) o.frame ∙ base_there

  by_is : s.holder.by ≡ n.id
  by_is = ap (λ (h : Holder). h.by) holder

  acts_there : MayAct there.book s.holder.by
  acts_there = subst (λ (b : Book). MayAct b s.holder.by) (sym book) (acts_entered x.book s.holder.by hold_may)

  seated_there : IsMember there.book s.holder.by
  seated_there = subst (λ (b : Book). IsMember b s.holder.by) (sym book) (entered_seated x.book s.holder.by hold_may.seated)

  abbrev left : Book
  left = left_book there.book s.holder.by end.given end.release

  seated_left : IsMember left n.id
  seated_left = subst (λ (i : MemberId). IsMember left i) by_is (seated_there.0, subst (λ (k : ℕ). s.holder.by.0 ≤ k) (sym (left_members there.book s.holder.by end.given end.release)) seated_there.1)

  -- the lock is had for the step, so it is left within it
  within : end.next ≢ Told → end.release ≡ inner_by ForStep
  within ne =
      let sat = o.turn.sat.sat in
      sat.ends.release ∙ o.turn.sat.shaped.release
      ∙ ap (λ (g : Grant). released g s.holder.hold (length (all_entries o.turn.sat.sitting.batches)) o.turn.sat.sitting.next) (ap (λ (h : Holder). h.grant) holder)
      ∙ released_within ForStep s.holder.hold (length (all_entries o.turn.sat.sitting.batches)) o.turn.sat.sitting.next (λ is. ne (sat.ends.next ∙ is))

  up_left : end.next ≢ Told → is_stopped left n.id ≡ false
  up_left ne =
      ap (λ (r : Release). is_stopped (left_book there.book s.holder.by end.given r) n.id) (within ne)
      ∙ subst (λ (i : MemberId). is_stopped (left_book there.book s.holder.by end.given (inner_by ForStep)) i ≡ false) by_is (within_up there.book s.holder.by end.given acts_there seated_there ForStep)

  same_queue : queue_of y ≡ queue_of there
  same_queue = ap (λ (q : Parts P C). queue_of q) o.frame

  goes : end.next ≢ Told → (stand : Stand) → stand ≡ stand_after s.holder x.base.config.hold end → GoesOnIn plants copies y n at stand
  goes ne stand is = record {
    up = ap (λ (q : Parts P C). is_stopped q.book n.id) o.frame ∙ up_left ne;
    off = ap (λ (q : Stand). on_line q.state) is ∙ off_next s.state end.next off o.on.goes.comes;
    begun = ap (λ (q : Stand). is_begun q.state) is ∙ begun_next s.state end.next ne o.on.goes.comes;
    holder = ap (λ (q : Stand). q.holder) is ∙ ap (λ (h : Holder). next_holder h x.base.config.hold end.given) holder ∙ ap (λ (q : Queue). racer q.config n.id at) (sym base);
    few = subst (λ (q : Stand). AreFewUnits q.state) (sym is) (few_after s.state end.next o.on.goes.comes o.on.goes.few few);
    mine = λ t. subst (λ (q : Stand). IsMine (queue_of y) n.id q.state) (sym is) (subst (λ (Q : Queue). IsMine Q n.id end.next) (sym same_queue) (mine_waits plants copies there n seat end.next o.on.waits t));
  }

  acts : end.next ≢ Told → (stand : Stand) → stand ≡ stand_after s.holder x.base.config.hold end → MayActNext plants copies y n at stand
  acts ne stand is = record {
    goes = goes ne stand is;
    may = subst (λ (q : Stand). MayActAfter plants (record y { current = None }) n q.state) (sym is)
        (subst (λ (o : Option Batch). MayActAfter plants (record y { current = o }) n end.next) (ap (λ (q : Parts P C). q.current) o.frame ∙ seat.still.none)
        (subst (λ (q : Parts P C). MayActAfter plants q n end.next) (sym o.frame)
        (may_act plants copies there n left seat (λ t. subst IsSound (sym base_there) (sound t)) (up_left ne) seated_left end.next o.on.waits)));
    well = subst (λ (q : Stand). WaitsWell plants.tells (queue_of y) n q.state) (sym is) (subst (λ (Q : Queue). WaitsWell plants.tells Q n end.next) (sym same_queue) o.on.waits);
    groups = λ t. ap (λ (Q : Queue). held_by n.id Q.owners) same_queue ∙ ap (held_by n.id) (seat.between.queue t).owners;
  }

  -- by where its step stands
  stands_by : (q : Stands) → stage_of q ≡ stage_after end.next → IsStageOf (stand_after s.holder x.base.config.hold end) q → WaitsAt plants copies y n at q
  stands_by line.Opens stage of = absurd of
  stands_by line.Closed stage of = tt
  stands_by (line.Acts stand) stage of = acts (λ told. absurd (apart (sym stage ∙ refl) told)) stand of where
    apart : stage_after end.next ≡ Acts stand.state → end.next ≡ Told → ⊥
    apart acts_so told = let closed : Closed ≡ Acts stand.state = ap stage_after (sym told) ∙ acts_so in absurd (cc)
  stands_by (line.Sits stand) stage of = record { goes = goes (λ told. absurd (apart (sym stage ∙ refl) told)) stand of; right = rests end.next stage o.on.goes.comes } where
    apart : stage_after end.next ≡ Sits stand.state stand.found → end.next ≡ Told → ⊥
    apart sits_so told = let closed : Closed ≡ Sits stand.state stand.found = ap stage_after (sym told) ∙ sits_so in absurd (cc)

    rests : (state : State) → Sits stand.state stand.found ≡ stage_after state → ComesTo s.state state → IsStillRight plants copies y n.id stand.state stand.found
    rests (Rested p) sits_so comes = let one : stand.state ≡ Rested p = cc in let two : stand.found ≡ nothing_found = cc in subst (λ (t : State). IsStillRight plants copies y n.id t stand.found) (sym one) two
    rests Told sits_so comes = absurd (cc)
    rests (Away a) sits_so comes = absurd (cc)
    rests (Fresh task) sits_so comes = absurd comes

  pub stands_next : WaitsAt plants copies y n at next
  stands_next = stands_by next o.stands o.stage
