use Rattle.mas_complex.proofs.Answering.{beside_all, laws_of, left_by}
use Rattle.mas_complex.proofs.complex.Complex.give.Goals as goal

pub invariant_of-self : goal.invariant_of-self
invariant_of-self g c =
    let e = c.give.ensures in
    left_by c.args.self.now (g.P.Plant.view c.give.new.self) e.acts.time (laws_of g.world g.met.P.Plant g.met.C.Steady g.met.C.Copying) e.acts.goes
    (λ told. beside_all _ _ e.acts.time (e.content told).disks (e.content told).console) (λ told. (e.content told).paper)
