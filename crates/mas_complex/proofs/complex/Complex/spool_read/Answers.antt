use Rattle.mas_complex.proofs.Answering.{beside_quiet, read_quiet, volume_of, laws_of, left_by}
use Rattle.mas_complex.proofs.complex.Complex.spool_read.Goals as goal

pub invariant_of-self : goal.invariant_of-self
invariant_of-self g c =
    let e = c.read_group.ensures in
    left_by c.args.self.now (g.P.Plant.view c.read_group.new.plant) e.acts.time (laws_of g.world g.met.P.Plant g.met.C.Steady g.met.C.Copying) e.acts.goes
    (λ told. beside_quiet _ c.read_group.new.plant e.acts.time (laws_of g.world g.met.P.Plant g.met.C.Steady g.met.C.Copying) told (volume_of c.args.self.now.base.config.groups c.args.group) (e.content told).only (read_quiet _ _ _ _ c.read_group.result (e.content told).disk)) (λ told. (e.content told).only.paper)
