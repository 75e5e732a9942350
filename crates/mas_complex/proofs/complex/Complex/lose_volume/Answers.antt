use Rattle.mas_complex.proofs.Answering.{beside_quiet, Spool, disk_now, view_of, laws_of, left_by, quiet_untouched}
use Rattle.mas_complex.proofs.complex.Complex.lose_volume.Goals as goal

pub invariant_of-self : goal.invariant_of-self
invariant_of-self g c =
    let e = c.lose.ensures in
    left_by c.args.self.now (g.P.Plant.view c.lose.new.self) e.acts.time (laws_of g.world g.met.P.Plant g.met.C.Steady g.met.C.Copying) e.acts.goes
    (λ told. beside_quiet _ c.lose.new.self e.acts.time (laws_of g.world g.met.P.Plant g.met.C.Steady g.met.C.Copying) told c.args.volume (e.content told).only (quiet_untouched _ _ (e.content told).disk)) (λ told. (e.content told).only.paper)
