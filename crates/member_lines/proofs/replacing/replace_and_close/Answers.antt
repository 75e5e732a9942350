use Rattle.std.proofs.Common.{List, ◌++◌, Option, ap, subst, sym}
use Rattle.mas_types.specs.declared.answers.Closing.{Closing}
use Rattle.mas_types.specs.declared.journals.Batch.{Batch}
use Rattle.mas_types.specs.Closings.{AreMembersNamed}
use Rattle.lock_cycle.specs.Books.{Book}
use Rattle.mas_complex.specs.Journals.{in_flight}
use Rattle.mas_complex.specs.Parts.{parts_of}
use Rattle.member_steps.specs.Steps.{AreKeptFrom}
use Rattle.member_steps.proofs.FateLemmas.{kept_from_later}
use Rattle.step_turns.specs.declared.states.State.TheVariants.{Told}
use Rattle.step_turns.specs.Sittings.{released}
use Rattle.run_turns.specs.Pieces.{replaced_closing}
use Rattle.run_turns.specs.Sights.{Renewed}
use Rattle.member_lines.specs.Closes.{HasClosedBy, failed, holds_at}
use Rattle.member_lines.specs.Replaces.{FollowsBy, IsTestedAs, left_found}
use Rattle.member_lines.proofs.Renewing.{closed_as, closing_named, ended_keeps, follows_in, renewed_rest, replaces_as, stopped_keeps}
use Rattle.member_lines.proofs.replacing.replace_and_close.Goals as goal

pub say_and_leave-requires-clause-may : goal.say_and_leave-requires-clause-may
say_and_leave-requires-clause-may g c = c.replace_at_seat.ensures.seat.still.holds.may

pub say_and_leave-requires-clause-member : goal.say_and_leave-requires-clause-member
say_and_leave-requires-clause-member g c = c.replace_at_seat.ensures.seat.still.holds.seated

pub say_and_leave-requires-clause-by : goal.say_and_leave-requires-clause-by
say_and_leave-requires-clause-by g c = c.replace_at_seat.ensures.seat.still.holds.few

pub say_and_leave-requires-clause-none : goal.say_and_leave-requires-clause-none
say_and_leave-requires-clause-none g c = c.replace_at_seat.ensures.seat.still.none

pub say_and_leave-requires-clause-unreserved : goal.say_and_leave-requires-clause-unreserved
say_and_leave-requires-clause-unreserved g c = c.replace_at_seat.ensures.seat.still.unreserved

pub say_and_leave-requires-clause-named : goal.say_and_leave-requires-clause-named
say_and_leave-requires-clause-named g c =
    let f = c.in-Ok.ensures.closes in
    subst (λ (k : Closing). AreMembersNamed k) (sym f.2) (closing_named c.args.dev f.0)

pub say_and_leave-requires-clause-kept : goal.say_and_leave-requires-clause-kept
say_and_leave-requires-clause-kept g c told =
    let P = g.P.Plant in
    let x = c.args.complex.now in
    let z = c.replace_at_seat.new.complex in
    let m = c.args.member.now in
    let rest = renewed_rest c.replace_at_seat.result c.args.dev (P.view x.plant).now (P.view z.plant).now (parts_of z) (parts_of x) c.replace_at_seat.ensures.frame in
    subst (λ (bs : List Batch). AreKeptFrom m.id c.args.holder.step bs (P.view z.plant).now) (sym (ap (λ p. p.batches ++ in_flight p.current) rest))
    (kept_from_later m.id c.args.holder.step (x.journal.batches ++ in_flight x.current) (P.view x.plant).now (P.view z.plant).now c.replace_at_seat.ensures.replaces.later (c.requires.kept told))

pub returns-in-Ok-clause-frame : goal.returns-in-Ok-clause-frame
returns-in-Ok-clause-frame g c =
    let P = g.P.Plant in
    let x = c.args.complex.now in
    let z = c.replace_at_seat.new.complex in
    let y = c.say_and_leave.new.complex in
    follows_in (parts_of x) (parts_of z) (parts_of y)
    (renewed_rest c.replace_at_seat.result c.args.dev (P.view x.plant).now (P.view z.plant).now (parts_of z) (parts_of x) c.replace_at_seat.ensures.frame)
    (ended_keeps c.say_and_leave.result c.args.member.now.id (released c.args.holder.grant c.args.holder.hold 0 Told) (parts_of z) (parts_of y) c.replace_at_seat.ensures.seat.still.unreserved c.say_and_leave.ensures.frame)

pub returns-in-Ok-clause-renews : goal.returns-in-Ok-clause-renews
returns-in-Ok-clause-renews g c S tested =
    let P = g.P.Plant in
    let C = g.C.Copying in
    let m = c.args.member.now in
    let h = c.args.holder in
    let dev = c.args.dev in
    let x = c.args.complex.now in
    let z = c.replace_at_seat.new.complex in
    let y = c.say_and_leave.new.complex in
    let answer = c.replace_at_seat.result in
    let r = c.say_and_leave.result in
    let f = c.in-Ok.ensures.closes in
    let rest = renewed_rest answer dev (P.view x.plant).now (P.view z.plant).now (parts_of z) (parts_of x) c.replace_at_seat.ensures.frame in
    let here : IsTestedAs S m.id h dev z.book = subst (λ (b : Book). IsTestedAs S m.id h dev b) (sym (ap (λ p. p.book) rest)) tested in
    let said : HasClosedBy P (holds_at m.id h.step (replaced_closing dev f.0) S z.book (released h.grant h.hold 0 Told)) m.id (parts_of z) (parts_of y) r =
    subst (λ (k : Closing). HasClosedBy P (holds_at m.id h.step k S z.book (released h.grant h.hold 0 Told)) m.id (parts_of z) (parts_of y) r) f.2 (c.say_and_leave.ensures.closed S) in
    record {
      there = parts_of z;
      answer = answer;
      replaced = c.replace_at_seat.ensures;
      follows = subst (λ (o : Option Renewed). FollowsBy P C o S m.id h dev answer (parts_of z) (parts_of y) r) (sym f.1) (
        closed_as P (holds_at m.id h.step (replaced_closing dev f.0) S z.book (released h.grant h.hold 0 Told)) (left_found S m.id h.step dev f.0) (replaces_as S m.id h dev z.book here f.0) m.id (parts_of z) (parts_of y) r said,
        c.say_and_leave.ensures.frame,
      );
    }

pub stop_halted-requires : goal.stop_halted-requires
stop_halted-requires g c = c.replace_at_seat.ensures.seat.still.holds.seated

pub returns-in-Err-clause-frame : goal.returns-in-Err-clause-frame
returns-in-Err-clause-frame g c =
    let P = g.P.Plant in
    let x = c.args.complex.now in
    let z = c.replace_at_seat.new.complex in
    let y = c.stop_halted.new.complex in
    follows_in (parts_of x) (parts_of z) (parts_of y)
    (renewed_rest c.replace_at_seat.result c.args.dev (P.view x.plant).now (P.view z.plant).now (parts_of z) (parts_of x) c.replace_at_seat.ensures.frame)
    (stopped_keeps c.in-Err.why c.args.member.now.id (parts_of z) (parts_of y) c.replace_at_seat.ensures.seat.still.unreserved c.stop_halted.ensures)

pub returns-in-Err-clause-renews : goal.returns-in-Err-clause-renews
returns-in-Err-clause-renews g c S tested =
    let P = g.P.Plant in
    let C = g.C.Copying in
    let m = c.args.member.now in
    let h = c.args.holder in
    let dev = c.args.dev in
    let z = c.replace_at_seat.new.complex in
    let y = c.stop_halted.new.complex in
    let answer = c.replace_at_seat.result in
    let ends = c.in-Err.ensures.ends in
    record {
      there = parts_of z;
      answer = answer;
      replaced = c.replace_at_seat.ensures;
      follows = subst (λ (o : Option Renewed). FollowsBy P C o S m.id h dev answer (parts_of z) (parts_of y) (failed c.in-Err.why)) (sym ends.0) (ends.1, c.stop_halted.ensures);
    }
