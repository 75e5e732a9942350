use Rattle.std.proofs.Common.{◌∙◌, false, [], None, Some, Ok, refl, sym, ap, subst}
use Rattle.std.proofs.lemmas.Result.{err_from_is_err_and}
use Rattle.mas_complex.specs.Parts.{parts_of}
use Rattle.job_outcome.specs.declared.outcomes.Read.{Read}
use Rattle.step_turns.specs.declared.states.Found.{Found}
use Rattle.member_wires.specs.Asides.{HasAnswered, end_of}
use Rattle.member_wires.proofs.OnLine.{gives_nothing}
use Rattle.member_wires.proofs.asides.acknowledge.Goals as goal
use Rattle.member_acts.specs.Asides.{wire_found}

pub returns-in_default-clause-acknowledges : goal.returns-in_default-clause-acknowledges
returns-in_default-clause-acknowledges g c =
    let P = g.P.Plant in
    let x = c.args.complex.now in
    let m = c.args.member.now in
    let is = c.found_on.ensures ∙ ap (λ (t : Read). wire_found t false []) c.no_text-nothing.ensures in
    rw c.in_default.is (subst (λ (f : Found). HasAnswered P (parts_of x) (parts_of x) m c.args.line None (Ok f)) (sym is) (record { gives = gives_nothing P.tells (end_of m c.args.line) (P.view x.plant); only = refl }))

pub returns-in_err-lost-clause-acknowledges : goal.returns-in_err-lost-clause-acknowledges
returns-in_err-lost-clause-acknowledges g c =
    let p = err_from_is_err_and c.from_residual.result c.from_residual.ensures.1 in
    rw (p.1, p.2, c.in-Some.is) (record { gives = c.in_err-lost.ensures.gives; only = tt })

pub returns-clause-acknowledges : goal.returns-clause-acknowledges
returns-clause-acknowledges g c =
    let P = g.P.Plant in
    let x = c.args.complex.now in
    let y = c.give_frame.new.complex in
    let m = c.args.member.now in
    let is = c.found_on-2.ensures ∙ ap (λ (t : Read). wire_found t c.in_ok-lost.lost []) c.no_text-nothing.ensures in
    rw c.in-Some.is (subst (λ (f : Found). HasAnswered P (parts_of x) (parts_of y) m c.args.line (Some c.in-Some.number) (Ok f)) (sym is) (record { gives = c.in_ok-lost.ensures.gives; only = refl }))
