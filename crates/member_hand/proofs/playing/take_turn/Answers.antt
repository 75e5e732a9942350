use Rattle.std.proofs.Common.{◌∙◌, Ok, Err, ap, length, sym, subst}
use Rattle.std.proofs.lemmas.Result.{err_from_is_err_and}
use Rattle.mas_types.specs.declared.ids.MemberId.{MemberId}
use Rattle.mas_complex.specs.Parts.{Parts, parts_of}
use Rattle.mas_complex.specs.Texts.{spools_at}
use Rattle.member_decks.proofs.FinishLemmas.{spools_apart}
use Rattle.member_hand.specs.Locks.{MayHold}
use Rattle.member_hand.specs.Sits.{start_of}
use Rattle.member_sittings.specs.Sat.{CopiesActed, seated_in}
use Rattle.lock_cycle.specs.Books.{IsMember}
use Rattle.member_hand.proofs.Entering.{to_enter, to_sit}
use Rattle.member_hand.proofs.Locking.{tries_well}
use Rattle.member_hand.proofs.PieceLemmas.{not_told, played_frame}
use Rattle.member_hand.proofs.Turning.{leaves_from, turn_cut, turned, unseated}
use Rattle.member_hand.proofs.playing.take_turn.Goals as goal

pub retake_lock-requires-clause-member : goal.retake_lock-requires-clause-member
retake_lock-requires-clause-member g c = subst (IsMember c.args.complex.now.book) (sym c.requires.goes.holder) c.requires.goes.hold.seated

pub retake_lock-requires-clause-free : goal.retake_lock-requires-clause-free
retake_lock-requires-clause-free g c = tries_well c.args.complex.now.book c.args.stand.holder.by (subst (MayHold c.args.complex.now.book) (sym c.requires.goes.holder) c.requires.goes.hold)

pub retake_lock-requires-clause-away : goal.retake_lock-requires-clause-away
retake_lock-requires-clause-away g c = λ nobody. (c.requires.goes.aside.quiet.unreserved, c.requires.goes.aside.quiet.none)

pub enter-requires : goal.enter-requires
enter-requires g c =
    to_enter g.P.Plant g.C.Copying (parts_of c.args.complex.now) c.args.member.now c.args.stand.holder c.args.stand.state c.requires.goes (parts_of c.retake_lock.new.self) c.retake_lock.ensures.frame

-- IT TOOK NO SEAT

pub returns-in_err-enter-clause-frame : goal.returns-in_err-enter-clause-frame
returns-in_err-enter-clause-frame g c =
    let e = c.enter.ensures in
    played_frame (parts_of c.args.complex.now) (parts_of c.enter.new.complex) (ap (λ p. p.base) e.frame ∙ ap (λ p. p.base) c.retake_lock.ensures.frame) (ap (λ p. p.since) e.frame ∙ ap (λ p. p.since) c.retake_lock.ensures.frame)
    (ap (λ p. p.renewals) e.frame ∙ ap (λ p. p.renewals) c.retake_lock.ensures.frame)

pub returns-in_err-enter-clause-book : goal.returns-in_err-enter-clause-book
returns-in_err-enter-clause-book g c = ap (λ p. p.book) c.enter.ensures.frame ∙ ap (λ p. p.book) c.retake_lock.ensures.frame

pub returns-in_err-enter-clause-cut : goal.returns-in_err-enter-clause-cut
returns-in_err-enter-clause-cut g c =
    let P = g.P.Plant in
    let C = g.C.Copying in
    let x = parts_of c.args.complex.now in
    let z = parts_of c.enter.new.complex in
    let m = c.args.member.now in
    let s = start_of c.args.stand in
    let go = c.requires.goes in
    let e = c.in_err-enter.field-0.0 in
    let p = err_from_is_err_and c.from_residual.result c.from_residual.ensures.1 in
    let acts = subst (λ (q : Parts _ _). CopiesActed P {T = Unit {0}} s.holder.by q z (Err e)) c.retake_lock.ensures.frame (subst (λ (i : MemberId). CopiesActed P {T = Unit {0}} i (parts_of c.retake_lock.new.self) z (Err e)) (sym go.holder) c.in_err-enter.ensures.acts) in
    rw (p.1, p.2) (λ was. unseated P C s x z (subst (MayHold x.book) (sym go.holder) go.hold) go.aside.quiet.none go.aside.quiet.unplaced
    (c.enter.ensures.frame ∙ ap (λ (q : Parts _ _). seated_in z q) c.retake_lock.ensures.frame) (not_told P C x m.id s.state s.found c.requires.right) (length m.room) e acts was)

-- IT SITS

pub sit-requires : goal.sit-requires
sit-requires g c =
    let P = g.P.Plant in
    let C = g.C.Copying in
    let x = parts_of c.args.complex.now in
    let z = parts_of c.enter.new.complex in
    let s = start_of c.args.stand in
    let acts = c.in_ok-enter.ensures.acts in
    to_sit P C x z s.holder.by (c.enter.ensures.frame ∙ ap (λ (q : Parts _ _). seated_in z q) c.retake_lock.ensures.frame)
    (λ t. spools_apart (P.view c.retake_lock.new.self.plant) (P.view c.enter.new.complex.plant) acts.on.course.goes.later (acts.on.apart t).others ∙ ap (λ (q : Parts _ _). spools_at (P.view q.plant) (P.view q.plant).now) c.retake_lock.ensures.frame)
    c.args.member.now c.enter.new.member s c.enter.ensures.id c.requires.goes c.requires.right c.requires.few c.in_ok-enter.ensures.seat

pub returns-clause-frame : goal.returns-clause-frame
returns-clause-frame g c =
    let e = c.enter.ensures in
    let f = c.sit.ensures.frame in
    played_frame (parts_of c.args.complex.now) (parts_of c.sit.new.complex) (ap (λ p. p.base) f ∙ ap (λ p. p.base) e.frame ∙ ap (λ p. p.base) c.retake_lock.ensures.frame)
    (ap (λ p. p.since) f ∙ ap (λ p. p.since) e.frame ∙ ap (λ p. p.since) c.retake_lock.ensures.frame)
    (ap (λ p. p.renewals) f ∙ ap (λ p. p.renewals) e.frame ∙ ap (λ p. p.renewals) c.retake_lock.ensures.frame)

pub returns-clause-book : goal.returns-clause-book
returns-clause-book g c = ap (λ p. p.book) c.sit.ensures.frame ∙ ap (λ p. p.book) c.enter.ensures.frame ∙ ap (λ p. p.book) c.retake_lock.ensures.frame

pub returns-clause-id : goal.returns-clause-id
returns-clause-id g c = c.sit.ensures.id ∙ c.enter.ensures.id

pub returns-clause-turn : goal.returns-clause-turn
returns-clause-turn g c =
    let P = g.P.Plant in
    let C = g.C.Copying in
    let x = parts_of c.args.complex.now in
    let z = parts_of c.enter.new.complex in
    let m = c.args.member.now in
    let s = start_of c.args.stand in
    let go = c.requires.goes in
    let acts = subst (λ (q : Parts _ _). CopiesActed P {T = Unit {0}} s.holder.by q z (Ok tt)) c.retake_lock.ensures.frame (subst (λ (i : MemberId). CopiesActed P {T = Unit {0}} i (parts_of c.retake_lock.new.self) z (Ok tt)) (sym go.holder) c.in_ok-enter.ensures.acts) in
    turned P C s x z (subst (MayHold x.book) (sym go.holder) go.hold) go.aside.quiet.none go.aside.quiet.unplaced (c.enter.ensures.frame ∙ ap (λ (q : Parts _ _). seated_in z q) c.retake_lock.ensures.frame)
    (not_told P C x m.id s.state s.found c.requires.right) acts (parts_of c.sit.new.complex) c.sit.ensures.frame c.sit.result c.sit.ensures.sat

pub returns-clause-again : goal.returns-clause-again
returns-clause-again g c =
    let P = g.P.Plant in
    let C = g.C.Copying in
    let x = parts_of c.args.complex.now in
    let z = parts_of c.enter.new.complex in
    let m = c.args.member.now in
    let s = start_of c.args.stand in
    let go = c.requires.goes in
    let acts = subst (λ (q : Parts _ _). CopiesActed P {T = Unit {0}} s.holder.by q z (Ok tt)) c.retake_lock.ensures.frame (subst (λ (i : MemberId). CopiesActed P {T = Unit {0}} i (parts_of c.retake_lock.new.self) z (Ok tt)) (sym go.holder) c.in_ok-enter.ensures.acts) in
    leaves_from P C s x z (subst (MayHold x.book) (sym go.holder) go.hold) go.aside.quiet.none go.aside.quiet.unplaced (c.enter.ensures.frame ∙ ap (λ (q : Parts _ _). seated_in z q) c.retake_lock.ensures.frame)
    (not_told P C x m.id s.state s.found c.requires.right) acts (parts_of c.sit.new.complex) c.sit.ensures.frame c.sit.new.member c.sit.result c.sit.ensures.again

pub returns-clause-cut : goal.returns-clause-cut
returns-clause-cut g c =
    let P = g.P.Plant in
    let C = g.C.Copying in
    let x = parts_of c.args.complex.now in
    let z = parts_of c.enter.new.complex in
    let m = c.args.member.now in
    let s = start_of c.args.stand in
    let go = c.requires.goes in
    let acts = subst (λ (q : Parts _ _). CopiesActed P {T = Unit {0}} s.holder.by q z (Ok tt)) c.retake_lock.ensures.frame (subst (λ (i : MemberId). CopiesActed P {T = Unit {0}} i (parts_of c.retake_lock.new.self) z (Ok tt)) (sym go.holder) c.in_ok-enter.ensures.acts) in
    turn_cut P C s x z (subst (MayHold x.book) (sym go.holder) go.hold) go.aside.quiet.none go.aside.quiet.unplaced (c.enter.ensures.frame ∙ ap (λ (q : Parts _ _). seated_in z q) c.retake_lock.ensures.frame)
    (not_told P C x m.id s.state s.found c.requires.right) acts (parts_of c.sit.new.complex) c.sit.ensures.frame (length m.room) c.sit.result c.sit.ensures.sat
