use Rattle.member_sittings.proofs.Names.{◌<◌, IsAtRest, first_half, second_half, too_high, length, ap, refl, subst, Config, AreLow, Journal, parts_of, pair_state, had_as, notes_none, notes_same, between_by, arith}
use Rattle.mas_complex.specs.Past.{values_of}
use Rattle.member_steps.proofs.KeepLemmas.{copies_none}
use Rattle.member_node.proofs.CourseLemmas.{no}
use Rattle.member_sittings.proofs.SeatLemmas.{Taken, gate_again, seat_frame, taken_seat}
use Rattle.member_sittings.proofs.Staying.{on_four, settle_copies}
use Rattle.member_sittings.proofs.seats.keep_seat.Goals as goal
use Rattle.member_sittings.proofs.seats.keep_seat.Goals.{else-not-complex-via-then-not-complex+else-not-complex-2, else-not-complex-via-else-not-complex}

pub take_seat-requires : goal.take_seat-requires
take_seat-requires g c = gate_again g.P.Plant g.C.Copying (parts_of c.args.complex.now) c.args.member.now c.requires.seat c.requires.level

pub primary-requires-clause-rests1 : goal.primary-requires-clause-rests1
primary-requires-clause-rests1 g c = let still = c.requires.seat.still in rw still.here still.first

pub primary-requires-clause-rests2 : goal.primary-requires-clause-rests2
primary-requires-clause-rests2 g c = let still = c.requires.seat.still in rw still.here still.second

pub returns-then-not-complex-2-clause-seats : goal.returns-then-not-complex-2-clause-seats
returns-then-not-complex-2-clause-seats g c =
    let x = parts_of c.args.complex.now in
    let m = c.args.member.now in
    let k = copies_none g.P.Plant.tells m.id.0 (pair_state g.P.Plant.view x) in
    record {
      frame = refl;
      id = refl;
      acts = record { on = record { course = k.course; loses = k.loses; cause = k.cause; spares = k.spares; apart = k.apart }; notes = notes_none m.id x.had };
      seat = record {
        seat = c.requires.seat;
        bounds = record { order = omega arith; high = omega arith; reached = c.requires.level; first = λ alive. absurd (no _ alive c.if-not-complex.true); second = λ alive. absurd (no _ alive c.if-not-complex-2.true) };
      };
    }

pub returns-clause-lost : goal.returns-clause-lost
returns-clause-lost g c told lost = elim c.else-not-complex.branch [
  | else-not-complex-via-then-not-complex+else-not-complex-2 w ↦ absurd (no _ w.if-not-complex-2.false lost.1)
  | else-not-complex-via-else-not-complex w ↦ absurd (no _ w.if-not-complex.false lost.0)
]

pub returns-clause-seats : goal.returns-clause-seats
returns-clause-seats g c =
    let P = g.P.Plant in
    let C = g.C.Copying in
    let x = parts_of c.args.complex.now in
    let y = parts_of c.primary.new.complex in
    let m = c.args.member.now in
    let s = c.requires.seat in
    let still = s.still in
    let e = c.primary.ensures in
    let batches = ap (λ (j : Journal). j.batches) e.journal in
    let frame = seat_frame P C x y e.book e.base e.since batches e.current e.reserved e.printed e.placed e.level e.renewals in
    record {
      frame = frame;
      id = refl;
      acts = record {
        on = settle_copies P.tells m.id.0 (pair_state P.view x) (pair_state P.view y) c.primary.result e.settle;
        notes = notes_same m.id x.had y.had (ap values_of e.had);
      };
      seat = on_four c.primary.result e.rests1 e.rests2 e.room1 e.room2 (λ one two room1 room2.
          let first : IsAtRest P.tells (first_half P C y) m.checkpoint.pages = rw still.here at one in
          let second : IsAtRest P.tells (second_half P C y) m.checkpoint.pages = rw still.here at two in
          let between = between_by P.tells x y m.batch m.checkpoint e.base batches e.current e.placed e.level s.between in
          let noted = had_as P.tells x.had y.had m m (ap values_of e.had) refl refl refl still.noted in
          let low : P.tells → AreLow m.checkpoint.tables.config (length x.batches) m.checkpoint.tables = λ t. subst (λ (k : Config). AreLow k (length x.batches) m.checkpoint.tables) still.config (s.low t) in
          let order : m.checkpoint.tables.order < too_high = omega arith in
          let high : m.checkpoint.level < too_high = omega arith in
          let taken : Taken P C x y m m = assumption (frame, still.here, still.many, e.settle.course.goes, first, second, between, noted, room1, room2, low, order, high) in
          taken_seat P C x y m m (gate_again P C x m s c.requires.level) taken);
    }
