use Rattle.mas_complex.proofs.Answering.{◌++◌, in_flight, adds_line, beside_devices, laws_of, left_by, past_of, setting_of, view_of, past_step}
use Rattle.mas_complex.proofs.complex.Complex.say.Goals as goal

pub invariant_of-self : goal.invariant_of-self
invariant_of-self g c =
    let s = c.args.self.now in
    let e = c.say.ensures in
    left_by s (g.P.Plant.view c.say.new.self) e.acts.time (laws_of g.world g.met.P.Plant g.met.C.Steady g.met.C.Copying) e.acts.goes
    (λ told. beside_devices _ _ e.acts.time (e.content told).disks (adds_line (setting_of s) (past_of s ++ in_flight s.current) (view_of s) _ c.args.line.now c.say.result e.acts.time (e.content told)
    (λ m at closes. past_step s.placed s.journal.batches (in_flight s.current) (view_of s).now m at (c.requires.told told m at closes)))) (λ told. (e.content told).paper)
