use Rattle.mas_complex.proofs.Answering.{beside_quiet, Spool, disk_now, view_of, laws_of, left_by, sync_quiet}
use Rattle.mas_complex.proofs.complex.Complex.spool_sync.Goals as goal

pub invariant_of-self : goal.invariant_of-self
invariant_of-self g c =
    let e = c.sync.ensures in
    left_by c.args.self.now (g.P.Plant.view c.sync.new.self) e.acts.time (laws_of g.world g.met.P.Plant g.met.C.Steady g.met.C.Copying) e.acts.goes
    (λ told. beside_quiet _ c.sync.new.self e.acts.time (laws_of g.world g.met.P.Plant g.met.C.Steady g.met.C.Copying) told c.args.volume (e.content told).only (sync_quiet _ _ c.sync.result (e.content told).disk)) (λ told. (e.content told).only.paper)
