use Rattle.std.proofs.Common.{◌≡◌, inl, ◌∙◌, ℕ, length, ap, sym, subst}
use Rattle.std.proofs.lemmas.Result.{err_from_is_err_and}
use Rattle.mas_complex.specs.Parts.{parts_of}
use Rattle.member_hand.proofs.PieceLemmas.{played_frame}
use Rattle.step_turns.specs.declared.states.Grant.TheVariants.{ForStep}
use Rattle.member_resets.specs.Resetting.{HasResetBy, IsAfterReset, IsAfterTakeover, MayResetAt}
use Rattle.member_resets.proofs.TakenOnLemmas.{may_hold, may_reset, on_done, takes_by}
use Rattle.member_resets.proofs.resetting.take_line.Goals as goal

pub take_lock-requires-clause-stands : goal.take_lock-requires-clause-stands
take_lock-requires-clause-stands g c =
    let m = c.requires.may in
    record { stands = m.stands; begun = m.begun; base_sound = m.base_sound; roomy = m.roomy }

-- IT WAS NOT TAKEN

pub returns-in_err-take_lock-clause-taken : goal.returns-in_err-take_lock-clause-taken
returns-in_err-take_lock-clause-taken g c =
    let p = err_from_is_err_and c.from_residual.result c.from_residual.ensures.1 in
    rw (p.1, p.2) (inl c.in_err-take_lock.ensures.untaken)

-- IT WAS TAKEN

pub hold_left-requires : goal.hold_left-requires
hold_left-requires g c =
    let x = parts_of c.args.complex.now in
    let mid = parts_of c.take_lock.new.complex in
    let f = c.take_lock.ensures.frame in
    let took = c.in_ok-take_lock.ensures.taken in
    (may_hold g.P.Plant g.C.Copying x mid c.args.member.now c.args.step c.args.of c.requires.may took.0 took.1 (ap (λ p. p.base) f) (ap (λ p. p.since) f)).seated

pub reset_line-requires : goal.reset_line-requires
reset_line-requires g c =
    let P = g.P.Plant in
    let C = g.C.Copying in
    let x = parts_of c.args.complex.now in
    let mid = parts_of c.take_lock.new.complex in
    let m = c.args.member.now in
    let f = c.take_lock.ensures.frame in
    let took = c.in_ok-take_lock.ensures.taken in
    record {
      may = subst (λ (n : ℕ). MayResetAt P C mid m (record { by = m.id; step = c.args.step; hold = n; grant = ForStep }) c.args.of) (sym c.hold_left.ensures)
          (may_reset P C x mid m c.args.step c.args.of c.requires.may took.0 took.1 (ap (λ p. p.base) f) (ap (λ p. p.since) f));
    }

pub returns-clause-frame : goal.returns-clause-frame
returns-clause-frame g c =
    let f = c.take_lock.ensures.frame in
    let r = c.reset_line.ensures.frame in
    played_frame (parts_of c.args.complex.now) (parts_of c.reset_line.new.complex) (ap (λ p. p.base) r ∙ ap (λ p. p.base) f) (ap (λ p. p.since) r ∙ ap (λ p. p.since) f) (ap (λ p. p.renewals) r ∙ ap (λ p. p.renewals) f)

pub returns-clause-taken : goal.returns-clause-taken
returns-clause-taken g c =
    let P = g.P.Plant in
    let C = g.C.Copying in
    let x = parts_of c.args.complex.now in
    let mid = parts_of c.take_lock.new.complex in
    let y = parts_of c.reset_line.new.complex in
    let m = c.args.member.now in
    let f = c.take_lock.ensures.frame in
    let took = c.in_ok-take_lock.ensures.taken in
    let base : mid.base ≡ x.base = ap (λ p. p.base) f in
    takes_by P C x mid m c.args.step c.args.of c.requires.may took.0 took.1 base (ap (λ p. p.since) f) y (length m.room) c.reset_line.result
    (record {
      mid = mid;
      found = took.0;
      taken = took.1;
      base = base;
      since = ap (λ p. p.since) f;
      renewals = ap (λ p. p.renewals) f;
      reset = subst (λ (n : ℕ). HasResetBy P C (record { by = m.id; step = c.args.step; hold = n; grant = ForStep }) c.args.of mid y (length m.room) c.reset_line.result) c.hold_left.ensures c.reset_line.ensures.reset;
    })

pub returns-clause-next : goal.returns-clause-next
returns-clause-next g c =
    let mid = c.take_lock.new.complex in
    let y = c.reset_line.new.complex in
    let m = c.args.member.now in
    let n = c.reset_line.new.member in
    on_done (IsAfterReset mid y m n (record { by = m.id; step = c.args.step; hold = c.hold_left.result; grant = ForStep }) c.args.of) (IsAfterTakeover c.args.complex.now y m n) c.reset_line.result
    (λ a. record { aside = a.aside; room = a.room; seat = a.seat })
    c.reset_line.ensures.next
