use Rattle.std.proofs.Common.{◌≡◌, ◌∙◌, Some, None, refl, sym}
use Rattle.std.proofs.lemmas.Result.{err_from_is_err_and}
use Rattle.mas_complex.specs.Parts.{parts_of}
use Rattle.race_turns.specs.Turns.{left_holder}
use Rattle.member_racing.proofs.Easing.{ease_aside}
use Rattle.member_racing.proofs.opening.wait_turn.Goals as goal

-- NO STOPPED MEMBER HOLDS THE LOCK

pub returns-in_default-clause-waits : goal.returns-in_default-clause-waits
returns-in_default-clause-waits g c =
    let none : left_holder c.args.complex.now.book ≡ None = sym c.stopped_holder.ensures ∙ c.in_default.is in
    rw none (record { frame = refl; answer = refl })

-- ONE DOES

pub take_and_reset-requires : goal.take_and_reset-requires
take_and_reset-requires g c =
    let some : left_holder c.args.complex.now.book ≡ Some c.in-Some.of = sym c.stopped_holder.ensures ∙ c.in-Some.is in
    record { may = rw some at c.requires.may }

pub returns-in_err-take_and_reset-clause-waits : goal.returns-in_err-take_and_reset-clause-waits
returns-in_err-take_and_reset-clause-waits g c =
    let some : left_holder c.args.complex.now.book ≡ Some c.in-Some.of = sym c.stopped_holder.ensures ∙ c.in-Some.is in
    let p = err_from_is_err_and c.from_residual.result c.from_residual.ensures.1 in
    rw (p.1, p.2, some) (record { takes = c.in_err-take_and_reset.ensures.takes; next = tt })

pub returns-clause-waits : goal.returns-clause-waits
returns-clause-waits g c =
    let some : left_holder c.args.complex.now.book ≡ Some c.in-Some.of = sym c.stopped_holder.ensures ∙ c.in-Some.is in
    rw some (record { takes = c.in_ok-take_and_reset.ensures.takes; next = refl })

pub returns-clause-ease : goal.returns-clause-ease
returns-clause-ease g c = λ up. ease_aside g.P.Plant g.C.Copying (parts_of c.take_and_reset.new.complex) c.take_and_reset.new.member c.in_ok-take_and_reset.ensures.next.aside
