use Rattle.std.proofs.Common.{◌≡◌, ◌∙◌, true, ap, inr, refl, subst, sym}
use Rattle.lock_cycle.specs.Books.{Book, is_holder}
use Rattle.mas_complex.specs.Locking.{MayAct}
use Rattle.mas_complex.specs.Parts.{Parts, parts_of}
use Rattle.step_turns.specs.declared.states.Release.{Release}
use Rattle.step_turns.specs.declared.states.State.TheVariants.{Told}
use Rattle.step_turns.specs.Sittings.{released}
use Rattle.run_turns.specs.Pieces.{released_by}
use Rattle.run_turns.proofs.Alone.{holds_it}
use Rattle.member_lines.specs.Closes.{holds_at}
use Rattle.member_lines.proofs.Closing.{refused_tested}
use Rattle.member_lines.proofs.Holding.{said_so, unsaid_so}
use Rattle.member_lines.proofs.replacing.say_and_leave.Goals as goal

pub say_refused-requires-clause-says : goal.say_refused-requires-clause-says
say_refused-requires-clause-says g c = inr (refl, c.requires.member, c.requires.may.up c.requires.member.0)

pub leave_lock-requires-clause-may : goal.leave_lock-requires-clause-may
leave_lock-requires-clause-may g c = subst (λ (b : Book). MayAct b c.args.by) (sym (ap (λ p. p.book) c.in-Ok.ensures.frame)) c.requires.may

pub returns-in-Ok-clause-frame : goal.returns-in-Ok-clause-frame
returns-in-Ok-clause-frame g c =
    let x = parts_of c.args.complex.now in
    let mid = parts_of c.say_refused.new.complex in
    let y = parts_of c.leave_lock.new.complex in
    let h = c.args.holder in
    let is : y ≡ record x { plant = mid.plant; book = released_by (released h.grant h.hold 0 Told) x.book c.args.by } =
    c.leave_lock.ensures ∙ ap (λ (w : Parts _ _). record w { book = released_by (released h.grant h.hold 0 Told) w.book c.args.by }) c.in-Ok.ensures.frame in
    is ∙ ap (λ (w : Parts _ _). record x { plant = w.plant; book = released_by (released h.grant h.hold 0 Told) x.book c.args.by }) (sym is)

pub returns-in-Ok-clause-closed : goal.returns-in-Ok-clause-closed
returns-in-Ok-clause-closed g c S =
    let x = c.args.complex.now in
    let mid = c.say_refused.new.complex in
    let y = c.leave_lock.new.complex in
    let by = c.args.by in
    let h = c.args.holder in
    let end = c.args.end.now in
    let release : Release = released h.grant h.hold 0 Told in
    let holds : is_holder x.book by ≡ true = holds_it by c.requires.member.0 x.book c.requires.may.holds in
    said_so by h.step end g.P.Plant S (holds_at by h.step end S x.book release) release (parts_of x) (parts_of mid) holds (λ cut. refl) (parts_of y) (ap (λ p. p.plant) c.leave_lock.ensures)
    (ap (λ p. p.book) c.leave_lock.ensures ∙ ap (λ (b : Book). released_by release b by) (ap (λ p. p.book) c.in-Ok.ensures.frame))
    (c.in-Ok.ensures.closed (record S { book = x.book }) (refused_tested S by by end x.book))

pub returns-in-Err-clause-frame : goal.returns-in-Err-clause-frame
returns-in-Err-clause-frame g c = c.in-Err.ensures.frame

pub returns-in-Err-clause-closed : goal.returns-in-Err-clause-closed
returns-in-Err-clause-closed g c S =
    let x = c.args.complex.now in
    let y = c.say_refused.new.complex in
    let by = c.args.by in
    let h = c.args.holder in
    let end = c.args.end.now in
    let release : Release = released h.grant h.hold 0 Told in
    let holds : is_holder x.book by ≡ true = holds_it by c.requires.member.0 x.book c.requires.may.holds in
    unsaid_so by h.step end g.P.Plant S (holds_at by h.step end S x.book release) release (parts_of x) (parts_of y) holds (λ cut. refl) c.in-Err.why
    (c.in-Err.ensures.closed (record S { book = x.book }) (refused_tested S by by end x.book))
