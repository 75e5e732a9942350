use Rattle.mas_complex.proofs.Answering.{◌≡◌, true, false, sym, subst, ℕ, Disk, Renewals, begun_on, is_open, Keeps, refl, of_device, on_either, begun_keep, still_closed, copies_of, laws_of, past_of, setting_of, view_of, values_of, with_other, ∥∥₁_map, call_of}
use Rattle.mas_complex.proofs.complex.Complex.begin_renewal.Goals as goal

pub invariant_of-self-clause-kept : goal.invariant_of-self-clause-kept
invariant_of-self-clause-kept g c told =
    let s = c.args.self.now in
    let x = call_of (laws_of g.world g.met.P.Plant g.met.C.Steady g.met.C.Copying) s c.args.dev c.requires.ckpt s.pair s.first s.second s.plant refl refl in
    ∥∥₁_map (s.kept told) (λ k. on_either (λ (rs : Renewals). Keeps (with_other (setting_of s) rs (values_of s.had)) (past_of s) s.current s.level (copies_of s) (view_of s)) c.begin_on.new.renewals (begun_on c.args.dev c.now-from.result s.renewals) s.renewals
    c.begin_on.result c.begin_on.ensures.ok c.begin_on.ensures.err
    (subst (λ (n : ℕ). Keeps (with_other (setting_of s) (begun_on c.args.dev n s.renewals) (values_of s.had)) (past_of s) s.current s.level (copies_of s) (view_of s)) (sym c.now-from.ensures) (begun_keep x (view_of s) k c.requires.dead))
    k)

pub invariant_of-self-clause-lost : goal.invariant_of-self-clause-lost
invariant_of-self-clause-lost g c d ckpt dead =
    let s = c.args.self.now in
    on_either (λ (rs : Renewals). is_open (of_device d rs) ≡ false → (view_of s).lost (Disk d) ≡ true)
    c.begin_on.new.renewals (begun_on c.args.dev c.now-from.result s.renewals) s.renewals c.begin_on.result c.begin_on.ensures.ok c.begin_on.ensures.err
    (λ closed. s.lost d ckpt dead (still_closed c.args.dev d c.requires.ckpt ckpt c.now-from.result s.renewals closed)) (s.lost d ckpt dead)
