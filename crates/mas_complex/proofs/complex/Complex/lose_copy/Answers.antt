use Rattle.mas_complex.proofs.Answering.{refl, SameOrLost, disk_now, no, elsewhere_of, copy_here, copy_there, facts_on, here, keeps_same, new, old, place_was, there, laws_of, setting_of, lost_while, passes_of, quiet, true, ∥∥₁_map, ◌≡◌, pair_less, call_of}
use Rattle.mas_complex.proofs.complex.Complex.lose_copy.Goals as goal

pub invariant_of-self : goal.invariant_of-self
invariant_of-self g c =
    let s = c.args.self.now in
    let e = c.lose.ensures in
    let x = call_of (laws_of g.world g.met.P.Plant g.met.C.Steady g.met.C.Copying) s c.args.dev c.requires.ckpt c.lose.new.self s.first s.second c.lose.new.plant e.other refl in
    let all = λ (told : g.P.Plant.tells). elsewhere_of x.dev (SameOrLost (disk_now (old x) x.dev)) (old x) (new x) (e.during told) in
    let passes = passes_of (old x) (new x) e.loses.goes in
    let stays = λ (now : (there x).alive ≡ true). absurd (no _ now e.alive) in
    facts_on x e.loses.goes all
    (λ told. ∥∥₁_map (s.kept told) (λ k. keeps_same x passes (all told) stays k
    (quiet (setting_of s) k.pages.was k.pages.coming x.dev (copy_there x) (old x) (new x) (copy_here x) (k.at x.dev x.ckpt) passes.later stays (x.laws.reads (here x) (place_was x)) (lost_while (old x) (new x) x.dev (e.during told)).here (λ _. e.gone told refl)
    (λ _ _ now. absurd (no _ now e.alive)))))
    (λ now. absurd (no _ now e.alive)) (λ _ _. e.loses.is_lost)

pub returns-clause-leaves : goal.returns-clause-leaves
returns-clause-leaves g c alive by =
    let P = g.P.Plant in
    let s = c.args.self.now in
    let e = c.lose.ensures in
    pair_less by s.pair c.lose.new.self (P.view s.plant) (P.view c.lose.new.plant) c.args.dev c.requires.ckpt alive e.alive e.other e.loses (λ told. elsewhere_of c.args.dev (SameOrLost (disk_now (P.view s.plant) c.args.dev)) (P.view s.plant) (P.view c.lose.new.plant) (e.during told))
