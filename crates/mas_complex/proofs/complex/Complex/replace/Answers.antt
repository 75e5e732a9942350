use Rattle.mas_complex.proofs.Answering.{◌≡◌, ◌<◌, true, ap, sym, subst, top, is_open, of_device, begun_open}
use Rattle.mas_complex.proofs.complex.Complex.replace.Goals as goal

pub renew_copy-requires-clause-began : goal.renew_copy-requires-clause-began
renew_copy-requires-clause-began g c lt =
    let s = c.args.self.now in
    let ok = c.in_ok-begin_renewal.ensures.ok in
    subst (λ rs. is_open (of_device c.args.dev rs) ≡ true) (sym (ap (λ x. x.renewals) ok))
    (begun_open c.args.dev c.requires.ckpt (g.P.Plant.view s.plant).now s.renewals (subst (λ p. (g.P.Plant.view p).now < top) (ap (λ x. x.plant) ok) lt))
