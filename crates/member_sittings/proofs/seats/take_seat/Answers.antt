use Rattle.member_sittings.proofs.Names.{ap, err_from_is_err_and, Journal, parts_of}
use Rattle.member_sittings.proofs.SeatLemmas.{Taken, seat_frame, taken_seat}
use Rattle.member_sittings.proofs.seats.take_seat.Goals as goal

pub take_hold-requires-clause-by : goal.take_hold-requires-clause-by
take_hold-requires-clause-by g c = c.requires.holds.few

pub take_hold-requires-clause-noted : goal.take_hold-requires-clause-noted
take_hold-requires-clause-noted g c = c.requires.noted

pub returns-in_err-take_hold : goal.returns-in_err-take_hold
returns-in_err-take_hold g c =
    let p = err_from_is_err_and c.from_residual.result c.from_residual.ensures.1 in
    let e = c.take_hold.ensures in
    let k = c.in_err-take_hold.ensures in
    rw (p.1, p.2) (record {
      frame = seat_frame g.P.Plant g.C.Copying (parts_of c.args.complex.now) (parts_of c.take_hold.new.complex) e.book e.base e.since (ap (λ (j : Journal). j.batches) e.journal) e.current e.reserved e.printed e.placed e.level e.renewals;
      id = e.id;
      acts = record { on = k.acts; notes = k.notes.others };
      seat = tt;
    })

pub returns : goal.returns
returns g c =
    let P = g.P.Plant in
    let C = g.C.Copying in
    let x = parts_of c.args.complex.now in
    let y = parts_of c.take_hold.new.complex in
    let m = c.args.member.now in
    let n = c.take_hold.new.member in
    let e = c.take_hold.ensures in
    let k = c.in_ok-take_hold.ensures in
    let frame = seat_frame P C x y e.book e.base e.since (ap (λ (j : Journal). j.batches) e.journal) e.current e.reserved e.printed e.placed e.level e.renewals in
    let taken : Taken P C x y m n = assumption (e, k, frame, k.acts.course.goes, k.notes.own c.requires.noted) in
    record { frame = frame; id = e.id; acts = record { on = k.acts; notes = k.notes.others }; seat = taken_seat P C x y m n c.requires taken }
