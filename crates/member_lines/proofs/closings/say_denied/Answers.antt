use Rattle.std.proofs.Common.{inr, refl, subst, sym}
use Rattle.mas_types.specs.declared.answers.Closing.{Closing}
use Rattle.mas_types.specs.Closings.{AreMembersNamed}
use Rattle.mas_complex.specs.Parts.{parts_of}
use Rattle.run_turns.specs.Admissions.{Refused}
use Rattle.member_lines.specs.Closes.{HasClosed}
use Rattle.member_lines.proofs.Closing.{denied_so, refused_tested}
use Rattle.member_lines.proofs.closings.say_denied.Goals as goal

pub say_refused-requires-clause-says : goal.say_refused-requires-clause-says
say_refused-requires-clause-says g c = inr (refl, c.requires.may.member, c.requires.may.up)

pub say_refused-requires-clause-named : goal.say_refused-requires-clause-named
say_refused-requires-clause-named g c = subst (λ (e : Closing). AreMembersNamed e) (sym c.closing_of.ensures) c.requires.named

pub returns-clause-closed : goal.returns-clause-closed
returns-clause-closed g c S tested =
    let x = c.args.complex.now in
    let y = c.say_refused.new.complex in
    let by = c.args.by in
    denied_so g.P.Plant S by c.args.step c.args.why (parts_of x) (parts_of y) tested.book c.say_refused.result
    (subst (λ (e : Closing). HasClosed g.P.Plant (record S { book = x.book }) by c.args.step (Refused by e) by (parts_of x) (parts_of y) c.say_refused.result) c.closing_of.ensures
    (c.say_refused.ensures.closed (record S { book = x.book }) (refused_tested S by by c.closing_of.result x.book)))
