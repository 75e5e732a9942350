use Rattle.std.proofs.Common.{◌∙◌, inl, inr, Ok, Err, ap, subst, sym}
use Rattle.std.proofs.lemmas.Result.{err_from_is_err_and}
use Rattle.lock_cycle.specs.Books.{IsMember}
use Rattle.mas_types.specs.declared.ids.MemberId.{MemberId}
use Rattle.mas_complex.specs.Parts.{Parts, parts_of}
use Rattle.mas_complex.specs.Texts.{spools_at}
use Rattle.member_decks.proofs.FinishLemmas.{spools_apart}
use Rattle.step_turns.specs.declared.states.Found.{Found}
use Rattle.member_sittings.specs.Sat.{CopiesActed, seated_in}
use Rattle.member_resets.specs.Locks.{MayHold}
use Rattle.member_resets.specs.Sits.{start_of}
use Rattle.member_resets.specs.Turns.{HasTurned}
use Rattle.member_resets.specs.Stand.{Stand}
use Rattle.member_resets.proofs.Entering.{to_enter, to_sit}
use Rattle.member_resets.proofs.Going.{may_leave, seat_of}
use Rattle.member_resets.proofs.Locking.{tries_well}
use Rattle.member_resets.proofs.PieceLemmas.{not_told, played_frame}
use Rattle.member_resets.proofs.Turning.{leaves_from}
use Rattle.member_racing.proofs.Easing.{ease_as, ease_seat}
use Rattle.member_racing.proofs.SittingLemmas.{sits_out}
use Rattle.member_racing.proofs.sitting.sit_turn.Goals as goal

pub retake_lock-requires-clause-member : goal.retake_lock-requires-clause-member
retake_lock-requires-clause-member g c = let go = c.requires.may.goes in subst (IsMember c.args.complex.now.book) (sym go.holder) go.hold.seated

pub retake_lock-requires-clause-free : goal.retake_lock-requires-clause-free
retake_lock-requires-clause-free g c =
    let go = c.requires.may.goes in
    tries_well c.args.complex.now.book c.args.stand.holder.by (subst (MayHold c.args.complex.now.book) (sym go.holder) go.hold)

pub retake_lock-requires-clause-away : goal.retake_lock-requires-clause-away
retake_lock-requires-clause-away g c = λ nobody. (c.requires.may.goes.aside.quiet.unreserved, c.requires.may.goes.aside.quiet.none)

pub enter-requires : goal.enter-requires
enter-requires g c =
    to_enter g.P.Plant g.C.Copying (parts_of c.args.complex.now) c.args.member.now c.args.stand.holder c.args.stand.state c.requires.may.goes (parts_of c.retake_lock.new.self) c.retake_lock.ensures.frame

-- IT TOOK NO SEAT

pub returns-in_err-enter-clause-sits : goal.returns-in_err-enter-clause-sits
returns-in_err-enter-clause-sits g c =
    let P = g.P.Plant in
    let x = parts_of c.args.complex.now in
    let z = parts_of c.enter.new.complex in
    let s = start_of c.args.stand in
    let go = c.requires.may.goes in
    let e = c.in_err-enter.field-0.0 in
    let p = err_from_is_err_and c.from_residual.result c.from_residual.ensures.1 in
    let acts = subst (λ (q : Parts _ _). CopiesActed P {T = Unit {0}} s.holder.by q z (Err e)) c.retake_lock.ensures.frame (subst (λ (i : MemberId). CopiesActed P {T = Unit {0}} i (parts_of c.retake_lock.new.self) z (Err e)) (sym go.holder) c.in_err-enter.ensures.acts) in
    rw (p.1, p.2) (inl (record { frame = c.enter.ensures.frame ∙ ap (λ (q : Parts _ _). seated_in z q) c.retake_lock.ensures.frame; acts = acts }))

pub returns-in_err-enter-clause-frame : goal.returns-in_err-enter-clause-frame
returns-in_err-enter-clause-frame g c =
    let e = c.enter.ensures in
    played_frame (parts_of c.args.complex.now) (parts_of c.enter.new.complex) (ap (λ p. p.base) e.frame ∙ ap (λ p. p.base) c.retake_lock.ensures.frame) (ap (λ p. p.since) e.frame ∙ ap (λ p. p.since) c.retake_lock.ensures.frame)
    (ap (λ p. p.renewals) e.frame ∙ ap (λ p. p.renewals) c.retake_lock.ensures.frame)

-- IT SITS

pub sit-requires : goal.sit-requires
sit-requires g c =
    let P = g.P.Plant in
    let C = g.C.Copying in
    let x = parts_of c.args.complex.now in
    let z = parts_of c.enter.new.complex in
    let s = start_of c.args.stand in
    let acts = c.in_ok-enter.ensures.acts in
    to_sit P C x z s.holder.by (c.enter.ensures.frame ∙ ap (λ (q : Parts _ _). seated_in z q) c.retake_lock.ensures.frame)
    (λ t. spools_apart (P.view c.retake_lock.new.self.plant) (P.view c.enter.new.complex.plant) acts.on.course.goes.later (acts.on.apart t).others ∙ ap (λ (q : Parts _ _). spools_at (P.view q.plant) (P.view q.plant).now) c.retake_lock.ensures.frame)
    c.args.member.now c.enter.new.member s c.enter.ensures.id c.requires.may.goes c.requires.may.right c.requires.may.few c.in_ok-enter.ensures.seat

pub returns-in_err-end-clause-id : goal.returns-in_err-end-clause-id
returns-in_err-end-clause-id g c = c.sit.ensures.id ∙ c.enter.ensures.id

pub returns-in_err-end-clause-sits : goal.returns-in_err-end-clause-sits
returns-in_err-end-clause-sits g c =
    let P = g.P.Plant in
    let x = parts_of c.args.complex.now in
    let z = parts_of c.enter.new.complex in
    let s = start_of c.args.stand in
    let go = c.requires.may.goes in
    let p = err_from_is_err_and c.from_residual-in_err-end.result c.from_residual-in_err-end.ensures.1 in
    let acts = subst (λ (q : Parts _ _). CopiesActed P {T = Unit {0}} s.holder.by q z (Ok tt)) c.retake_lock.ensures.frame (subst (λ (i : MemberId). CopiesActed P {T = Unit {0}} i (parts_of c.retake_lock.new.self) z (Ok tt)) (sym go.holder) c.in_ok-enter.ensures.acts) in
    rw (p.1, p.2) (inr (record {
      seat = z;
      took = record { frame = c.enter.ensures.frame ∙ ap (λ (q : Parts _ _). seated_in z q) c.retake_lock.ensures.frame; acts = acts };
      frame = c.sit.ensures.frame;
      sat = c.in_err-end.ensures.sat;
    }))

pub returns-in_err-end-clause-frame : goal.returns-in_err-end-clause-frame
returns-in_err-end-clause-frame g c =
    let e = c.enter.ensures in
    let f = c.sit.ensures.frame in
    played_frame (parts_of c.args.complex.now) (parts_of c.sit.new.complex) (ap (λ p. p.base) f ∙ ap (λ p. p.base) e.frame ∙ ap (λ p. p.base) c.retake_lock.ensures.frame)
    (ap (λ p. p.since) f ∙ ap (λ p. p.since) e.frame ∙ ap (λ p. p.since) c.retake_lock.ensures.frame)
    (ap (λ p. p.renewals) f ∙ ap (λ p. p.renewals) e.frame ∙ ap (λ p. p.renewals) c.retake_lock.ensures.frame)

-- THE LOCK IS LEFT

pub leave-requires : goal.leave-requires
leave-requires g c =
    let P = g.P.Plant in
    let C = g.C.Copying in
    let x = parts_of c.args.complex.now in
    let z = parts_of c.enter.new.complex in
    let y = parts_of c.sit.new.complex in
    let s = start_of c.args.stand in
    let end = c.in_ok-end.end in
    let go = c.requires.may.goes in
    let frame = c.enter.ensures.frame ∙ ap (λ (q : Parts _ _). seated_in z q) c.retake_lock.ensures.frame in
    let acts = subst (λ (q : Parts _ _). CopiesActed P {T = Unit {0}} s.holder.by q z (Ok tt)) c.retake_lock.ensures.frame (subst (λ (i : MemberId). CopiesActed P {T = Unit {0}} i (parts_of c.retake_lock.new.self) z (Ok tt)) (sym go.holder) c.in_ok-enter.ensures.acts) in
    let turn : HasTurned P s x y end = record { seat = z; locked = frame; took = acts; frame = c.sit.ensures.frame; sat = c.in_ok-end.ensures.sat } in
    let leaves = leaves_from P C s x z (subst (MayHold x.book) (sym go.holder) go.hold) go.aside.quiet.none go.aside.quiet.unplaced frame (not_told P C x c.args.member.now.id s.state s.found c.requires.may.right) acts y c.sit.ensures.frame c.sit.new.member (Ok end) c.in_ok-end.ensures.again in
    may_leave P C s x y end turn c.args.member.now go c.sit.new.member (c.sit.ensures.id ∙ c.enter.ensures.id)
    (ap (λ (q : Parts _ _). q.book) c.sit.ensures.frame ∙ ap (λ (q : Parts _ _). q.book) frame) leaves

pub stage_of-requires : goal.stage_of-requires
stage_of-requires g c = c.nothing_found.ensures

pub returns-clause-id : goal.returns-clause-id
returns-clause-id g c = c.sit.ensures.id ∙ c.enter.ensures.id

pub returns-clause-sits : goal.returns-clause-sits
returns-clause-sits g c =
    let P = g.P.Plant in
    let C = g.C.Copying in
    let x = parts_of c.args.complex.now in
    let z = parts_of c.enter.new.complex in
    let y = parts_of c.sit.new.complex in
    let s = start_of c.args.stand in
    let end = c.in_ok-end.end in
    let go = c.requires.may.goes in
    let frame = c.enter.ensures.frame ∙ ap (λ (q : Parts _ _). seated_in z q) c.retake_lock.ensures.frame in
    let acts = subst (λ (q : Parts _ _). CopiesActed P {T = Unit {0}} s.holder.by q z (Ok tt)) c.retake_lock.ensures.frame (subst (λ (i : MemberId). CopiesActed P {T = Unit {0}} i (parts_of c.retake_lock.new.self) z (Ok tt)) (sym go.holder) c.in_ok-enter.ensures.acts) in
    let turn : HasTurned P s x y end = record { seat = z; locked = frame; took = acts; frame = c.sit.ensures.frame; sat = c.in_ok-end.ensures.sat } in
    let leaves = leaves_from P C s x z (subst (MayHold x.book) (sym go.holder) go.hold) go.aside.quiet.none go.aside.quiet.unplaced frame (not_told P C x c.args.member.now.id s.state s.found c.requires.may.right) acts y c.sit.ensures.frame c.sit.new.member (Ok end) c.in_ok-end.ensures.again in
    sits_out P C s x y end turn c.sit.new.member leaves c.next_holder-next.result c.next_holder-next.ensures
    (record { holder = c.next_holder-next.result; state = end.next; found = c.nothing_found.result })
    (ap (λ (f : Found). let q : Stand = record { holder = c.next_holder-next.result; state = end.next; found = f } in q) c.nothing_found.ensures)
    (parts_of c.leave.new.complex) c.leave.ensures.frame c.stage_of.result c.stage_of.ensures.stage c.stage_of.ensures.stand

pub returns-clause-frame : goal.returns-clause-frame
returns-clause-frame g c =
    let e = c.enter.ensures in
    let f = c.sit.ensures.frame in
    let l = c.leave.ensures.frame in
    played_frame (parts_of c.args.complex.now) (parts_of c.leave.new.complex) (ap (λ p. p.base) l ∙ ap (λ p. p.base) f ∙ ap (λ p. p.base) e.frame ∙ ap (λ p. p.base) c.retake_lock.ensures.frame)
    (ap (λ p. p.since) l ∙ ap (λ p. p.since) f ∙ ap (λ p. p.since) e.frame ∙ ap (λ p. p.since) c.retake_lock.ensures.frame)
    (ap (λ p. p.renewals) l ∙ ap (λ p. p.renewals) f ∙ ap (λ p. p.renewals) e.frame ∙ ap (λ p. p.renewals) c.retake_lock.ensures.frame)

pub returns-clause-ease : goal.returns-clause-ease
returns-clause-ease g c = λ up.
    let P = g.P.Plant in
    let C = g.C.Copying in
    let w = parts_of c.sit.new.complex in
    let n = c.sit.new.member in
    let end = c.in_ok-end.end in
    ease_as P C w (parts_of c.leave.new.complex) n (ap (λ (q : Parts _ _). q.base) c.leave.ensures.frame) (ap (λ (q : Parts _ _). q.had) c.leave.ensures.frame)
    (ease_seat P C w n (seat_of P C end.next w n c.args.stand.holder.step c.in_ok-end.ensures.again.sits))
