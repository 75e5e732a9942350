use Rattle.mas_complex.proofs.Answering.{Disk as DiskPart, ◌≡◌, true, arith, subst, sym, NoMore, disk_now, copy_of, false, pick, IsGone, disk_at, each, pair_lost, copies_of, facts, half_of, laws_of, paper_after, past_of, place_of, ready_of, setting_of, view_of, Throughout, more_at, ∥∥₁_map, Went, passes_of, quiet, copies_went}
use Rattle.mas_complex.proofs.complex.Complex.read_page.Goals as goal

pub invariant_of-self : goal.invariant_of-self
invariant_of-self g c =
    let s = c.args.self.now in
    let C = g.C.Copying in
    let laws = laws_of g.world g.met.P.Plant g.met.C.Steady g.met.C.Copying in
    let old = view_of s in
    let new = g.P.Plant.view c.read_page.new.plant in
    let p = c.read_page.new.self in
    let e = c.read_page.ensures in
    let alive = each (λ d. (pick d p.first p.second).alive ≡ true → (half_of s d).alive ≡ true) e.acted.alive1 e.acted.alive2 in
    let same = each (λ d. (pick d p.first p.second).copy ≡ (half_of s d).copy) e.copy1 e.copy2 in
    facts s p s.first s.second new e.acted.goes.later
    (λ told. ∥∥₁_map (s.kept told) (λ k.
    let m = e.during told in
    copies_went (setting_of s) (past_of s) s.current s.level (copies_of s) (λ d. copy_of C.rests C.holds (pick d p.first p.second) (place_of s d)) old new k k.pages (passes_of old new m.goes) (record { volumes = m.others; console = m.console })
    (λ d ckpt. let less = each (λ d. Throughout old.now new.now (λ t. NoMore (disk_now old d) (disk_at new t d))) m.first m.second d ckpt in
    subst (λ y. Went (setting_of s) k.pages.was k.pages.coming d (record { rests = C.rests y; holds = C.holds y; alive = (pick d p.first p.second).alive; place = place_of s d }) old new) (sym (same d ckpt))
    (quiet (setting_of s) k.pages.was k.pages.coming d (record (copies_of s d) { alive = (pick d p.first p.second).alive }) old new (copies_of s d) (k.at d ckpt) m.goes.later (alive d ckpt) (laws.reads (half_of s d) (place_of s d)) less
    (each (λ d. IsGone d (half_of s d).alive (pick d p.first p.second).alive new) (e.gone1 told) (e.gone2 told) d ckpt)
    (λ is _ _. more_at (setting_of s) k.pages.was k.pages.coming (copies_of s d) (disk_now old d) (disk_now new d) (laws.rests_stays (half_of s d).copy) (laws.holds_stays (half_of s d).copy) (less new.now m.goes.later (omega arith)) (place_of s d) ((k.at d ckpt).at is))))
    (λ d ckpt is. k.later d ckpt (alive d ckpt is))))
    (paper_after s new e.acted.goes (λ told t from le. ((e.during told).sides t from le).paper))
    (λ d ckpt is. subst (λ y. g.C.Steady.fits y new ≡ true) (sym (same d ckpt)) (g.C.Steady.stays_fit (half_of s d).copy old new e.acted.goes (s.ready d ckpt (alive d ckpt is))))
    (λ d ckpt. pair_lost d (half_of s d).alive (pick d p.first p.second).alive old new e.acted.goes
    (each (λ d. (half_of s d).alive ≡ true → (pick d p.first p.second).alive ≡ false → new.lost (DiskPart d) ≡ true) e.acted.is_lost1 e.acted.is_lost2 d ckpt) (s.lost d ckpt))

pub read_page-requires-clause-ready : goal.read_page-requires-clause-ready
read_page-requires-clause-ready g c = ready_of c.args.self.now (laws_of g.world g.met.P.Plant g.met.C.Steady g.met.C.Copying)
