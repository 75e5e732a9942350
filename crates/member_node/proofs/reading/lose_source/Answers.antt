use Rattle.std.proofs.Common.{ap}
use Rattle.member_node.proofs.CourseLemmas.{course_lost1, course_lost2}
use Rattle.member_node.proofs.ReadLemmas.{other_alive}
use Rattle.member_node.proofs.reading.lose_source.Goals as goal

pub returns-then-complex-clause-course : goal.returns-then-complex-clause-course
returns-then-complex-clause-course g c =
    let P = g.P.Plant in
    let x = c.args.complex.now in
    let y = c.lose.new.self in
    let e = c.lose.ensures in
    course_lost1 x.pair.first.alive y.pair.first.alive x.pair.second.alive y.pair.second.alive (P.view x.plant) (P.view y.plant) c.if-complex.true (e.dead tt) (ap (λ h. h.alive) e.other) e.loses

pub returns-clause-course : goal.returns-clause-course
returns-clause-course g c =
    let P = g.P.Plant in
    let x = c.args.complex.now in
    let y = c.lose-2.new.self in
    let e = c.lose-2.ensures in
    course_lost2 x.pair.first.alive y.pair.first.alive x.pair.second.alive y.pair.second.alive (P.view x.plant) (P.view y.plant) (other_alive x.pair.first.alive x.pair.second.alive c.requires.some c.if-complex.false) (e.dead tt) (ap (λ h. h.alive) e.other) e.loses
