use Rattle.std.proofs.Common.{◌∙◌, ap, false, inr, refl}
use Rattle.lock_cycle.specs.Books.{Book, after_free}
use Rattle.mas_complex.specs.Parts.{parts_of}
use Rattle.step_turns.specs.declared.states.Release.TheVariants.{Outer}
use Rattle.run_turns.specs.Admissions.{Frees}
use Rattle.member_lines.specs.Closes.{left_at}
use Rattle.member_lines.proofs.Closing.{refused_tested}
use Rattle.member_lines.proofs.Holding.{frees_as, said_so, says_ok, unsaid_so}
use Rattle.member_lines.proofs.locks.free_line.Goals as goal

pub say_refused-requires-clause-says : goal.say_refused-requires-clause-says
say_refused-requires-clause-says g c = inr (refl, c.requires.may.member, c.requires.may.up)

pub returns-in-Ok-clause-closed : goal.returns-in-Ok-clause-closed
returns-in-Ok-clause-closed g c S tested =
    let x = c.args.complex.now in
    let y = c.say_refused.new.complex in
    let z = c.free-freed.new.self in
    let by = c.args.by in
    let at = c.args.step in
    said_so by at says_ok g.P.Plant S (left_at S by at Frees) Outer (parts_of x) (parts_of y) c.requires.holds (frees_as by at S x.book (tested.flight refl) tested.book) (parts_of z) c.free-freed.ensures.plant
    (c.free-freed.ensures.book ∙ ap (λ (b : Book). after_free b by false) (ap (λ p. p.book) c.in-Ok.ensures.frame))
    (c.in-Ok.ensures.closed (record S { book = x.book }) (refused_tested S by by says_ok x.book))

pub returns-in-Err-clause-closed : goal.returns-in-Err-clause-closed
returns-in-Err-clause-closed g c S tested =
    let x = c.args.complex.now in
    let y = c.say_refused.new.complex in
    let by = c.args.by in
    let at = c.args.step in
    unsaid_so by at says_ok g.P.Plant S (left_at S by at Frees) Outer (parts_of x) (parts_of y) c.requires.holds (frees_as by at S x.book (tested.flight refl) tested.book) c.in-Err.why
    (c.in-Err.ensures.closed (record S { book = x.book }) (refused_tested S by by says_ok x.book))
