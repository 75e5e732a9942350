use Rattle.std.proofs.Common.{◌≡◌, ◌∙◌, false, length, [], ◌∷◌, refl, Ok, Err, ap, sym, subst, arith}
use Rattle.std.proofs.lemmas.Result.{err_from_is_err_and}
use Rattle.mas_types.specs.declared.commands.Command.TheVariants as command
use Rattle.mas_types.specs.declared.ids.MemberId.{MemberId}
use Rattle.mas_types.specs.declared.queues.Queue.{Queue}
use Rattle.lock_cycle.specs.Books.{Book}
use Rattle.mas_complex.specs.Parts.{parts_of}
use Rattle.member_hand.specs.Locks.{MayHold}
use Rattle.member_hand.proofs.Entering.{to_enter}
use Rattle.member_hand.proofs.Going.{seat_of}
use Rattle.member_hand.proofs.PieceLemmas.{played_frame}
use Rattle.member_sittings.specs.Sat.{CopiesActed}
use Rattle.member_sittings.specs.Whole.{IsGivable}
use Rattle.member_steps.proofs.ReadLemmas.{pages_of_run}
use Rattle.step_turns.specs.Sittings.{Sitting}
use Rattle.run_turns.specs.Pieces.{piece_of}
use Rattle.member_resets.specs.Resetting.{reset_begins}
use Rattle.member_resets.specs.Settling.{IsResetPiece}
use Rattle.member_resets.proofs.ResetCutLemmas.{entered_same, reset_cut, reset_unseated}
use Rattle.member_resets.proofs.ResetDoneLemmas.{aside_after, may_leave_after, members_after, reset_done, room_after, seat_after}
use Rattle.member_resets.proofs.resetting.try_reset.Goals as goal

pub enter-requires : goal.enter-requires
enter-requires g c =
    let x = parts_of c.args.complex.now in
    let h = c.args.holder in
    let go = c.requires.may.goes in
    let may : MayHold x.book h.by = subst (MayHold x.book) (sym go.holder) go.hold in
    to_enter g.P.Plant g.C.Copying x c.args.member.now h (reset_begins c.args.of) go x (sym (ap (λ (b : Book). record x { book = b }) (entered_same x.book h.by may.up c.requires.may.holds)))

-- IT TOOK NO SEAT

pub returns-in_err-enter-clause-frame : goal.returns-in_err-enter-clause-frame
returns-in_err-enter-clause-frame g c =
    let e = c.enter.ensures in
    played_frame (parts_of c.args.complex.now) (parts_of c.enter.new.complex) (ap (λ p. p.base) e.frame) (ap (λ p. p.since) e.frame) (ap (λ p. p.renewals) e.frame)

pub returns-in_err-enter-clause-members : goal.returns-in_err-enter-clause-members
returns-in_err-enter-clause-members g c = ap (λ p. length p.book.members) c.enter.ensures.frame

pub returns-in_err-enter-clause-cut : goal.returns-in_err-enter-clause-cut
returns-in_err-enter-clause-cut g c =
    let P = g.P.Plant in
    let C = g.C.Copying in
    let x = parts_of c.args.complex.now in
    let z = parts_of c.enter.new.complex in
    let m = c.args.member.now in
    let h = c.args.holder in
    let go = c.requires.may.goes in
    let e = c.in_err-enter.field-0.0 in
    let p = err_from_is_err_and c.from_residual.result c.from_residual.ensures.1 in
    let acts = subst (λ (i : MemberId). CopiesActed P i x z (Err e)) (sym go.holder) c.in_err-enter.ensures.acts in
    rw (p.1, p.2)
    (reset_unseated P C h c.args.of x z (subst (MayHold x.book) (sym go.holder) go.hold) go.aside.quiet.none go.aside.quiet.unplaced c.requires.may.holds c.enter.ensures.frame (length m.room) e acts)

-- IT SITS

pub sit_reset-requires-clause-givable : goal.sit_reset-requires-clause-givable
sit_reset-requires-clause-givable g c =
    let e = c.enter.ensures in
    subst (λ (b : Queue). IsGivable b c.enter.new.member.id (command.Reset c.args.of)) (sym (ap (λ p. p.base) e.frame))
    (subst (λ (i : MemberId). IsGivable c.args.complex.now.base i (command.Reset c.args.of)) (sym e.id) c.requires.may.givable)

pub returns-in_err-end-clause-frame : goal.returns-in_err-end-clause-frame
returns-in_err-end-clause-frame g c =
    let e = c.enter.ensures in
    let f = c.sit_reset.ensures.frame in
    played_frame (parts_of c.args.complex.now) (parts_of c.sit_reset.new.complex) (ap (λ p. p.base) f ∙ ap (λ p. p.base) e.frame) (ap (λ p. p.since) f ∙ ap (λ p. p.since) e.frame) (ap (λ p. p.renewals) f ∙ ap (λ p. p.renewals) e.frame)

pub returns-in_err-end-clause-id : goal.returns-in_err-end-clause-id
returns-in_err-end-clause-id g c = c.sit_reset.ensures.id ∙ c.enter.ensures.id

pub returns-in_err-end-clause-members : goal.returns-in_err-end-clause-members
returns-in_err-end-clause-members g c = ap (λ p. length p.book.members) c.sit_reset.ensures.frame ∙ ap (λ p. length p.book.members) c.enter.ensures.frame

pub returns-in_err-end-clause-cut : goal.returns-in_err-end-clause-cut
returns-in_err-end-clause-cut g c =
    let P = g.P.Plant in
    let C = g.C.Copying in
    let x = parts_of c.args.complex.now in
    let z = parts_of c.enter.new.complex in
    let h = c.args.holder in
    let go = c.requires.may.goes in
    let e = c.in_err-end.field-0.0 in
    let p = err_from_is_err_and c.from_residual-in_err-end.result c.from_residual-in_err-end.ensures.1 in
    let acts = subst (λ (i : MemberId). CopiesActed P i x z (Ok tt)) (sym go.holder) c.in_ok-enter.ensures.acts in
    let s = c.in_err-end.ensures.resets in
    rw (p.1, p.2)
    (reset_cut P C h c.args.of x z (subst (MayHold x.book) (sym go.holder) go.hold) go.aside.quiet.none go.aside.quiet.unplaced c.requires.may.holds c.enter.ensures.frame acts
    (parts_of c.sit_reset.new.complex) c.sit_reset.ensures.frame (length c.args.member.now.room) e s.sitting s.own (s.shaped.0, ap (λ (t : Sitting). piece_of t false [] ∷ []) s.shaped.1) s.is s.sat)

-- IT LEAVES THE LOCK, or keeps it

pub leave-requires : goal.leave-requires
leave-requires g c =
    let P = g.P.Plant in
    let C = g.C.Copying in
    let x = parts_of c.args.complex.now in
    let z = parts_of c.enter.new.complex in
    let w = parts_of c.sit_reset.new.complex in
    let h = c.args.holder in
    let of = c.args.of in
    let go = c.requires.may.goes in
    let end = c.in_ok-end.end in
    let s = c.in_ok-end.ensures.resets in
    let n = c.sit_reset.new.member in
    let acts = subst (λ (i : MemberId). CopiesActed P i x z (Ok tt)) (sym go.holder) c.in_ok-enter.ensures.acts in
    may_leave_after P C h of x z (subst (MayHold x.book) (sym go.holder) go.hold) go.aside.quiet.none go.aside.quiet.unplaced c.requires.may.holds c.enter.ensures.frame acts w c.sit_reset.ensures.frame
    s.sitting s.own (s.shaped.0, ap (λ (t : Sitting). piece_of t false [] ∷ []) s.shaped.1) s.is end s.sat n (c.sit_reset.ensures.id ∙ c.enter.ensures.id ∙ sym go.holder)
    (seat_of P C end.next w n h.step c.in_ok-end.ensures.again.sits) _ refl

pub returns-clause-frame : goal.returns-clause-frame
returns-clause-frame g c =
    let e = c.enter.ensures in
    let f = c.sit_reset.ensures.frame in
    let l = c.leave.ensures.frame in
    played_frame (parts_of c.args.complex.now) (parts_of c.leave.new.complex) (ap (λ p. p.base) l ∙ ap (λ p. p.base) f ∙ ap (λ p. p.base) e.frame)
    (ap (λ p. p.since) l ∙ ap (λ p. p.since) f ∙ ap (λ p. p.since) e.frame) (ap (λ p. p.renewals) l ∙ ap (λ p. p.renewals) f ∙ ap (λ p. p.renewals) e.frame)

pub returns-clause-id : goal.returns-clause-id
returns-clause-id g c = c.sit_reset.ensures.id ∙ c.enter.ensures.id

pub returns-clause-members : goal.returns-clause-members
returns-clause-members g c =
    let P = g.P.Plant in
    let C = g.C.Copying in
    let x = parts_of c.args.complex.now in
    let z = parts_of c.enter.new.complex in
    let w = parts_of c.sit_reset.new.complex in
    let h = c.args.holder in
    let of = c.args.of in
    let go = c.requires.may.goes in
    let end = c.in_ok-end.end in
    let s = c.in_ok-end.ensures.resets in
    let n = c.sit_reset.new.member in
    let acts = subst (λ (i : MemberId). CopiesActed P i x z (Ok tt)) (sym go.holder) c.in_ok-enter.ensures.acts in
    members_after P C h of x z (subst (MayHold x.book) (sym go.holder) go.hold) go.aside.quiet.none go.aside.quiet.unplaced c.requires.may.holds c.enter.ensures.frame acts w c.sit_reset.ensures.frame
    s.sitting s.own (s.shaped.0, ap (λ (t : Sitting). piece_of t false [] ∷ []) s.shaped.1) s.is end s.sat n (c.sit_reset.ensures.id ∙ c.enter.ensures.id ∙ sym go.holder)
    (seat_of P C end.next w n h.step c.in_ok-end.ensures.again.sits) (parts_of c.leave.new.complex) c.leave.ensures.frame

pub returns-clause-reset : goal.returns-clause-reset
returns-clause-reset g c =
    let P = g.P.Plant in
    let C = g.C.Copying in
    let x = parts_of c.args.complex.now in
    let z = parts_of c.enter.new.complex in
    let w = parts_of c.sit_reset.new.complex in
    let m = c.args.member.now in
    let h = c.args.holder in
    let of = c.args.of in
    let go = c.requires.may.goes in
    let end = c.in_ok-end.end in
    let s = c.in_ok-end.ensures.resets in
    let n = c.sit_reset.new.member in
    let acts = subst (λ (i : MemberId). CopiesActed P i x z (Ok tt)) (sym go.holder) c.in_ok-enter.ensures.acts in
    let shaped : IsResetPiece h of (piece_of s.sitting false [] ∷ []) = (s.shaped.0, ap (λ (t : Sitting). piece_of t false [] ∷ []) s.shaped.1) in
    let may : MayHold x.book h.by = subst (MayHold x.book) (sym go.holder) go.hold in
    let id : n.id ≡ h.by = c.sit_reset.ensures.id ∙ c.enter.ensures.id ∙ sym go.holder in
    let seat = seat_of P C end.next w n h.step c.in_ok-end.ensures.again.sits in
    let room = room_after P C h of x z may go.aside.quiet.none go.aside.quiet.unplaced c.requires.may.holds c.enter.ensures.frame acts w c.sit_reset.ensures.frame s.sitting s.own shaped s.is end s.sat n id seat (parts_of c.leave.new.complex) c.leave.ensures.frame in
    reset_done P C h of x z may go.aside.quiet.none go.aside.quiet.unplaced c.requires.may.holds c.enter.ensures.frame acts w c.sit_reset.ensures.frame s.sitting s.own shaped s.is end s.sat n id seat (parts_of c.leave.new.complex) c.leave.ensures.frame
    (length m.room) (room ∙ pages_of_run x.base [] m.checkpoint m.room go.aside.config go.aside.idle.drawn go.aside.idle.many)

pub returns-clause-next : goal.returns-clause-next
returns-clause-next g c =
    let P = g.P.Plant in
    let C = g.C.Copying in
    let x = parts_of c.args.complex.now in
    let z = parts_of c.enter.new.complex in
    let w = parts_of c.sit_reset.new.complex in
    let y = parts_of c.leave.new.complex in
    let m = c.args.member.now in
    let h = c.args.holder in
    let of = c.args.of in
    let go = c.requires.may.goes in
    let end = c.in_ok-end.end in
    let s = c.in_ok-end.ensures.resets in
    let n = c.sit_reset.new.member in
    let acts = subst (λ (i : MemberId). CopiesActed P i x z (Ok tt)) (sym go.holder) c.in_ok-enter.ensures.acts in
    let shaped : IsResetPiece h of (piece_of s.sitting false [] ∷ []) = (s.shaped.0, ap (λ (t : Sitting). piece_of t false [] ∷ []) s.shaped.1) in
    let may : MayHold x.book h.by = subst (MayHold x.book) (sym go.holder) go.hold in
    let id : n.id ≡ h.by = c.sit_reset.ensures.id ∙ c.enter.ensures.id ∙ sym go.holder in
    let seat = seat_of P C end.next w n h.step c.in_ok-end.ensures.again.sits in
    let room = room_after P C h of x z may go.aside.quiet.none go.aside.quiet.unplaced c.requires.may.holds c.enter.ensures.frame acts w c.sit_reset.ensures.frame s.sitting s.own shaped s.is end s.sat n id seat y c.leave.ensures.frame in
    let reached = c.in_ok-end.ensures.again.grown.reached in
    let same : z.level ≡ x.level = ap (λ p. p.level) c.enter.ensures.frame in
    let left : y.level ≡ w.level = ap (λ p. p.level) c.leave.ensures.frame in
    record {
      aside = aside_after P C h of x z may go.aside.quiet.none go.aside.quiet.unplaced c.requires.may.holds c.enter.ensures.frame acts w c.sit_reset.ensures.frame s.sitting s.own shaped s.is end s.sat n id seat y c.leave.ensures.frame;
      room = room ∙ pages_of_run x.base [] m.checkpoint m.room go.aside.config go.aside.idle.drawn go.aside.idle.many;
      level = omega (arith, reached, same, left);
      seat = seat_after P C h of x z may go.aside.quiet.none go.aside.quiet.unplaced c.requires.may.holds c.enter.ensures.frame acts w c.sit_reset.ensures.frame s.sitting s.own shaped s.is end s.sat n id seat y c.leave.ensures.frame;
    }
