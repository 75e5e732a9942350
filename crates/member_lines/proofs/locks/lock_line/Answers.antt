use Rattle.std.proofs.Common.{◌≡◌, ◌++◌, true, List, ap, inl, inr, refl, subst, sym}
use Rattle.mas_types.specs.declared.journals.Batch.{Batch}
use Rattle.lock_cycle.specs.Books.{Book, IsMember, is_holder}
use Rattle.mas_complex.specs.Journals.{in_flight}
use Rattle.mas_complex.specs.Parts.{parts_of}
use Rattle.run_turns.proofs.Alone.{holds_it}
use Rattle.member_lines.specs.Closes.{IsSayer}
use Rattle.member_steps.specs.Steps.{AreKeptFrom}
use Rattle.member_steps.proofs.FateLemmas.{kept_from_later}
use Rattle.member_lines.proofs.Closing.{refused_tested}
use Rattle.member_lines.proofs.Holding.{says_ok}
use Rattle.member_lines.proofs.Seating.{seated, unseated, unseated_frame}
use Rattle.member_lines.proofs.locks.lock_line.Goals as goal

pub say_refused-requires-clause-says : goal.say_refused-requires-clause-says
say_refused-requires-clause-says g c =
    let lock = c.requires.may.holds in
    let m = c.args.member.now in
    subst (λ (b : Book). IsSayer b m.id m.id) (sym (ap (λ p. p.book) c.take_seat.ensures.frame)) (inr (refl, lock.seated, lock.may.up lock.some))

pub say_refused-requires-clause-kept : goal.say_refused-requires-clause-kept
say_refused-requires-clause-kept g c told =
    let x = c.args.complex.now in
    let mid = c.take_seat.new.complex in
    let now = (g.P.Plant.view x.plant).now in
    let then_at = (g.P.Plant.view mid.plant).now in
    subst (λ (bs : List Batch). AreKeptFrom c.args.member.now.id c.args.step bs then_at) (sym (ap (λ p. p.batches ++ in_flight p.current) c.take_seat.ensures.frame))
    (kept_from_later c.args.member.now.id c.args.step (x.journal.batches ++ in_flight x.current) now then_at c.in-Ok.ensures.acts.on.course.goes.later (c.requires.kept told))

pub returns-in-Ok-clause-locks : goal.returns-in-Ok-clause-locks
returns-in-Ok-clause-locks g c S tested =
    let x = c.args.complex.now in
    let m = c.args.member.now in
    let n = c.take_seat.new.member in
    let mid = c.take_seat.new.complex in
    let y = c.say_refused.new.complex in
    let lock = c.requires.may.holds in
    let holds : is_holder x.book m.id ≡ true = holds_it m.id lock.some x.book lock.may.holds in
    let same : mid.book ≡ x.book = ap (λ p. p.book) c.take_seat.ensures.frame in
    seated g.P.Plant g.C.Copying S m c.args.step (parts_of x) tested holds n (parts_of mid) (parts_of y) c.take_seat.ensures.frame c.in-Ok.ensures.acts c.in-Ok.ensures.seat same c.say_refused.result
    c.say_refused.ensures.frame (c.say_refused.ensures.closed (record S { book = mid.book }) (refused_tested S m.id m.id says_ok mid.book))

pub stop_halted-requires : goal.stop_halted-requires
stop_halted-requires g c = subst (λ (b : Book). IsMember b c.args.member.now.id) (sym (ap (λ p. p.book) c.take_seat.ensures.frame)) c.requires.may.holds.seated

pub returns-in-Err-clause-frame : goal.returns-in-Err-clause-frame
returns-in-Err-clause-frame g c =
    unseated_frame c.args.member.now.id (parts_of c.args.complex.now) (parts_of c.take_seat.new.complex) (parts_of c.stop_halted.new.complex) c.in-Err.why c.take_seat.ensures.frame c.stop_halted.ensures

pub returns-in-Err-clause-locks : goal.returns-in-Err-clause-locks
returns-in-Err-clause-locks g c S tested =
    inl (unseated c.args.member.now.id (parts_of c.args.complex.now) (parts_of c.take_seat.new.complex) (parts_of c.stop_halted.new.complex) g.P.Plant g.C.Copying c.in-Err.why c.take_seat.ensures.frame c.stop_halted.ensures c.in-Err.ensures.acts)
