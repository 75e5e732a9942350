use Rattle.mas_complex.proofs.Answering.{Parts, AreLater, page_count, pick, bytes_of, disk_now, ◌≡◌, ◌∙◌, true, ap, sym, subst, alive_picked, ◌∷◌, rests_before, copies_of, setting_of, ∥∥₁_map, later_later, later_next}
use Rattle.mas_complex.proofs.complex.Complex.log.Goals as goal

pub put_on-requires-clause-later : goal.put_on-requires-clause-later
put_on-requires-clause-later g c told =
    let s = c.args.self.now in
    let dev = c.args.dev in
    let h = pick dev s.pair.first s.pair.second in
    let old = g.P.Plant.view s.plant in
    let n = c.begin_first.new.self in
    let e = c.begin_first.ensures in
    let pages = bytes_of c.args.pages.now in
    ∥∥₁_map (s.kept told) (λ k alive.
    let is : h.alive ≡ true = sym (alive_picked dev n.pair.first n.pair.second s.pair.first s.pair.second (ap (λ p. p.first_alive) e) (ap (λ p. p.second_alive) e)) ∙ alive in
    subst (λ (q : Parts _ _). AreLater (page_count q.base.config) q.had pages) (sym e)
    (λ m page ps noted. later_later (page_count s.base.config) (bytes_of (page ∷ ps)) k.pages.was pages ((k.later dev c.requires.ckpt is).0 m page ps noted) (later_next (page_count s.base.config) k.pages.was pages (c.requires.leveled told is k.pages.was (g.met.C.Copying.rests_now h.copy k.pages.was (disk_now old dev) (rests_before (setting_of s) k.pages.was k.pages.coming (copies_of s dev) dev old (k.at dev c.requires.ckpt) c.requires.place is))))))
