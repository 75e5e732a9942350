use Rattle.std.proofs.Common.{◌≤◌, ℕ, Err, false, true, refl, ap, subst, sym}
use Rattle.duplex_pair.specs.Both.{PairActed}
use Rattle.member_node.proofs.CourseLemmas.{apart_on, course_of}
use Rattle.member_node.proofs.SpareLemmas.{spares_pair}
use Rattle.member_node.proofs.member.Member.primary.Goals as goal

pub returns-in-Ok-clause-room1 : goal.returns-in-Ok-clause-room1
returns-in-Ok-clause-room1 g c on = subst (λ (n : ℕ). 1 ≤ n) (sym (c.in-Ok.ensures.room1 on)) g.met.C.Steady.has_room

pub returns-in-Ok-clause-room2 : goal.returns-in-Ok-clause-room2
returns-in-Ok-clause-room2 g c on = subst (λ (n : ℕ). 1 ≤ n) (sym (c.in-Ok.ensures.room2 on)) g.met.C.Steady.has_room

pub returns-in-Err-Halted-clause-operator : goal.returns-in-Err-Halted-clause-operator
returns-in-Err-Halted-clause-operator g c halts = (rw c.in-Err-Halted.field-0-is at c.in-Err-Halted.ensures.acted).not_operator refl

pub returns-in-Err-Halted-clause-settle : goal.returns-in-Err-Halted-clause-settle
returns-in-Err-Halted-clause-settle g c =
    let P = g.P.Plant in
    let x = c.args.complex.now in
    let z = c.settle.new.self in
    let acted : PairActed c.args.self.now.id.0 x.pair.first.alive z.pair.first.alive x.pair.second.alive z.pair.second.alive true (P.view x.plant) (P.view z.plant) = rw c.in-Err-Halted.field-0-is at c.in-Err-Halted.ensures.acted in
    record {
      course = course_of c.args.self.now.id.0 x.pair.first.alive z.pair.first.alive x.pair.second.alive z.pair.second.alive true (P.view x.plant) (P.view z.plant) acted;
      cause = (acted.stands refl, acted.halted refl);
      spares = spares_pair c.args.self.now.id.0 x.pair.first.alive z.pair.first.alive x.pair.second.alive z.pair.second.alive true (P.view x.plant) (P.view z.plant) acted;
      loses = acted.loses;
      apart = λ told. apart_on (P.view x.plant) (P.view z.plant) (c.in-Err-Halted.ensures.apart told);
    }

pub returns-in-Ok-clause-settle : goal.returns-in-Ok-clause-settle
returns-in-Ok-clause-settle g c =
    let P = g.P.Plant in
    let x = c.args.complex.now in
    let z = c.settle.new.self in
    let acted : PairActed c.args.self.now.id.0 x.pair.first.alive z.pair.first.alive x.pair.second.alive z.pair.second.alive false (P.view x.plant) (P.view z.plant) = c.in-Ok.ensures.acted in
    record {
      course = course_of c.args.self.now.id.0 x.pair.first.alive z.pair.first.alive x.pair.second.alive z.pair.second.alive false (P.view x.plant) (P.view z.plant) acted;
      cause = c.in-Ok.ensures.ok;
      spares = spares_pair c.args.self.now.id.0 x.pair.first.alive z.pair.first.alive x.pair.second.alive z.pair.second.alive false (P.view x.plant) (P.view z.plant) acted;
      loses = acted.loses;
      apart = λ told. apart_on (P.view x.plant) (P.view z.plant) (c.in-Ok.ensures.apart told);
    }

pub returns-in-Err-BothLost-clause-settle : goal.returns-in-Err-BothLost-clause-settle
returns-in-Err-BothLost-clause-settle g c =
    let P = g.P.Plant in
    let x = c.args.complex.now in
    let z = c.settle.new.self in
    let acted : PairActed c.args.self.now.id.0 x.pair.first.alive z.pair.first.alive x.pair.second.alive z.pair.second.alive false (P.view x.plant) (P.view z.plant) = rw c.in-Err-BothLost.field-0-is at c.in-Err-BothLost.ensures.acted in
    record {
      course = course_of c.args.self.now.id.0 x.pair.first.alive z.pair.first.alive x.pair.second.alive z.pair.second.alive false (P.view x.plant) (P.view z.plant) acted;
      cause = c.in-Err-BothLost.ensures.both (ap Err c.in-Err-BothLost.field-0-is);
      spares = spares_pair c.args.self.now.id.0 x.pair.first.alive z.pair.first.alive x.pair.second.alive z.pair.second.alive false (P.view x.plant) (P.view z.plant) acted;
      loses = acted.loses;
      apart = λ told. apart_on (P.view x.plant) (P.view z.plant) (c.in-Err-BothLost.ensures.apart told);
    }
