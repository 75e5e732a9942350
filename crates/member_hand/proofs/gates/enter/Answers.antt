use Rattle.std.proofs.Common.{◌∙◌, ap, sym}
use Rattle.mas_complex.specs.Parts.{parts_of}
use Rattle.member_decks.proofs.OpenLemmas.{on_ok}
use Rattle.member_hand.proofs.Seating.{step_on, untold_on}
use Rattle.member_hand.proofs.gates.enter.Goals as goal

-- ONE THAT TOOK THE LOCK FOR ITS STEP

pub take_seat-requires : goal.take_seat-requires
take_seat-requires g c = rw c.in-ForStep.is at c.requires.gate

pub returns-in-ForStep-clause-seat : goal.returns-in-ForStep-clause-seat
returns-in-ForStep-clause-seat g c =
    let x = parts_of c.args.complex.now in
    let y = parts_of c.take_seat.new.complex in
    let m = c.args.member.now in
    let n = c.take_seat.new.member in
    let e = c.take_seat.ensures in
    let gate = rw c.in-ForStep.is at c.requires.gate in
    let base = ap (λ p. p.base) e.frame in
    let since = ap (λ p. p.since) e.frame in
    let batches = ap (λ p. p.batches) e.frame in
    on_ok c.take_seat.result
    (λ took. record {
      sits = record {
        seat = took.seat;
        untold = untold_on g.P.Plant g.C.Copying x y m.id n.id c.args.holder.step e.id base since gate.begun e.acts.on.course.goes (λ t. (e.acts.on.apart t).console) c.requires.untold;
        step = step_on g.P.Plant g.C.Copying x y m.id n.id c.args.holder.step e.id batches e.acts.on.course.goes c.requires.step;
      };
      bounds = took.bounds;
      holder = c.requires.holder ∙ sym e.id;
    })
    e.seat

-- ONE THAT HAS IT BY LOCK

pub keep_seat-requires : goal.keep_seat-requires
keep_seat-requires g c = rw c.in-ByLock.is at c.requires.gate

pub returns-in-ByLock-clause-seat : goal.returns-in-ByLock-clause-seat
returns-in-ByLock-clause-seat g c =
    let x = parts_of c.args.complex.now in
    let y = parts_of c.keep_seat.new.complex in
    let m = c.args.member.now in
    let n = c.keep_seat.new.member in
    let e = c.keep_seat.ensures.seats in
    let gate = rw c.in-ByLock.is at c.requires.gate in
    let base = ap (λ p. p.base) e.frame in
    let since = ap (λ p. p.since) e.frame in
    let batches = ap (λ p. p.batches) e.frame in
    on_ok c.keep_seat.result
    (λ took. record {
      sits = record {
        seat = took.seat;
        untold = untold_on g.P.Plant g.C.Copying x y m.id n.id c.args.holder.step e.id base since gate.seat.still.begun e.acts.on.course.goes (λ t. (e.acts.on.apart t).console) c.requires.untold;
        step = step_on g.P.Plant g.C.Copying x y m.id n.id c.args.holder.step e.id batches e.acts.on.course.goes c.requires.step;
      };
      bounds = took.bounds;
      holder = c.requires.holder ∙ sym e.id;
    })
    e.seat
