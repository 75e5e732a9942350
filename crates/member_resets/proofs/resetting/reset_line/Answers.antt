use Rattle.std.proofs.Common.{◌∙◌, ◌≤◌, ℕ, Err, length, ap, sym, subst}
use Rattle.mas_types.specs.declared.ids.MemberId.{MemberId}
use Rattle.lock_cycle.specs.Books.{IsMember}
use Rattle.mas_complex.specs.Parts.{Parts, parts_of}
use Rattle.member_hand.proofs.PieceLemmas.{played_frame, stopped_base, stopped_renewals, stopped_since}
use Rattle.member_resets.specs.Resetting.{HasResetBy}
use Rattle.member_resets.proofs.resetting.reset_line.Goals as goal

pub stop_halted-requires : goal.stop_halted-requires
stop_halted-requires g c =
    let goes = c.requires.may.goes in
    let seated = goes.hold.seated in
    subst (λ (i : MemberId). IsMember c.try_reset.new.complex.book i) (sym goes.holder) (seated.0, subst (λ (k : ℕ). c.args.member.now.id.0 ≤ k) (sym c.try_reset.ensures.members) seated.1)

pub returns-in-Err-clause-frame : goal.returns-in-Err-clause-frame
returns-in-Err-clause-frame g c =
    let z = parts_of c.try_reset.new.complex in
    played_frame (parts_of c.args.complex.now) (parts_of c.stop_halted.new.complex)
    (ap (λ p. p.base) c.stop_halted.ensures ∙ stopped_base c.in-Err.why c.args.holder.by z ∙ ap (λ p. p.base) c.try_reset.ensures.frame)
    (ap (λ p. p.since) c.stop_halted.ensures ∙ stopped_since c.in-Err.why c.args.holder.by z ∙ ap (λ p. p.since) c.try_reset.ensures.frame)
    (ap (λ p. p.renewals) c.stop_halted.ensures ∙ stopped_renewals c.in-Err.why c.args.holder.by z ∙ ap (λ p. p.renewals) c.try_reset.ensures.frame)

pub returns-in-Err-clause-reset : goal.returns-in-Err-clause-reset
returns-in-Err-clause-reset g c =
    subst (λ (y : Parts _ _). HasResetBy g.P.Plant g.C.Copying c.args.holder c.args.of (parts_of c.args.complex.now) y (length c.args.member.now.room) (Err c.in-Err.why)) (sym c.stop_halted.ensures) c.in-Err.ensures.cut
