use Rattle.mas_complex.proofs.Answering.{beside_write, laws_of, left_by}
use Rattle.mas_complex.proofs.complex.Complex.spool_write.Goals as goal

pub invariant_of-self : goal.invariant_of-self
invariant_of-self g c =
    let e = c.write_group.ensures in
    left_by c.args.self.now (g.P.Plant.view c.write_group.new.plant) e.acts.time (laws_of g.world g.met.P.Plant g.met.C.Steady g.met.C.Copying) e.acts.goes
    (λ told. beside_write _ c.write_group.new.plant e.acts.time (laws_of g.world g.met.P.Plant g.met.C.Steady g.met.C.Copying) told c.law_of_places.ensures.own c.args.by c.args.group c.args.bytes.now c.write_group.result e.whole (c.requires.kept told) (c.requires.flying told) (e.content told)) (λ told. (e.content told).only.paper)
