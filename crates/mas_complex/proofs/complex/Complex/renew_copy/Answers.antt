use Rattle.mas_complex.proofs.Answering.{◌≤◌, sym, pages_least, pages_most, many_beside, ◌≡◌, ◌∙◌, List, ℕ, Some, ap, le_refl, refl, subst, bytes_of, Place, other, IsOrForms, ViewDisk as Disk, disk_now, Disk as DiskPart, Elsewhere, is_open, of_device, false, true, Pair, ReadsStale, is_away, Call, lost_on, near_dev, new, of_both, old, ready_on, there, beside, part_beside, Passes, replaces_passes, ended_keep, gone_closed, replaced_elsewhere, replaced_keep, same_was, no, KeepsAt, facts, laws_of, setting_of, facts_with, inr, ∥∥₁_map, call_of, paper_with}
use Rattle.mas_complex.proofs.complex.Complex.renew_copy.Given.{Over}
use Rattle.mas_complex.proofs.complex.Complex.renew_copy.Goals.{After-replace}
use Rattle.mas_complex.proofs.complex.Complex.renew_copy.Goals as goal

-- THE CALL, whose copies stand at these places after it

abbrev call : (g : Over) (c : After-replace g) (pair : Pair _ g.C.Copying) (first second : Place) → other c.args.dev pair.first pair.second ≡ other c.args.dev c.args.self.now.pair.first c.args.self.now.pair.second
    → other c.args.dev first second ≡ other c.args.dev c.args.self.now.first c.args.self.now.second → Call g.P.Plant g.C.Steady g.C.Copying
call g c pair first second same at = call_of (laws_of g.world g.met.P.Plant g.met.C.Steady g.met.C.Copying) c.args.self.now c.args.dev c.requires.ckpt pair first second c.replace.new.plant same at

-- of which the pair is as it was, and as it is then
abbrev still : (g : Over) → After-replace g → Call g.P.Plant g.C.Steady g.C.Copying
still g c = call g c c.args.self.now.pair c.args.self.now.first c.args.self.now.second refl refl

abbrev failed : (g : Over) → After-replace g → Call g.P.Plant g.C.Steady g.C.Copying
failed g c = call g c c.replace.new.pair c.args.self.now.first c.args.self.now.second c.replace.ensures.other refl

elsewhere : (g : Over) (c : After-replace g) → g.P.Plant.tells → Elsewhere c.args.dev (old (still g c)) (new (still g c))
elsewhere g c told =
    let x = still g c in
    replaced_elsewhere x.dev (IsOrForms g.C.Copying.reads (disk_now (old x) x.dev) (bytes_of c.args.pages.now)) (old x) (new x) c.replace.ensures.replaces.later (c.replace.ensures.during told)

passes : (g : Over) (c : After-replace g) → Passes (old (still g c)) (new (still g c))
passes g c = replaces_passes c.args.by.0 c.args.dev _ (old (still g c)) (new (still g c)) c.requires.ckpt c.replace.ensures.replaces

-- AFTER AN ACT FAILED, OR THE MEMBER WAS STOPPED: the pair is as it was

pub invariant_of-self : goal.invariant_of-self
invariant_of-self g c =
    let d = (goal.at.invariant_of-self g c).After-replace in
    let x = failed g d in
    let s = x.was in
    let e = c.replace.ensures in
    let f = c.in_err-replace.ensures in
    let dead : (there x).alive ≡ false = ap (λ h. h.alive) f.err ∙ c.requires.dead in
    facts s x.pair s.first s.second (new x) e.replaces.later
    (λ told. ∥∥₁_map (s.kept told) (λ k. replaced_keep x (bytes_of c.args.pages.now) k (passes g d) c.requires.dead dead c.requires.began c.requires.beside c.requires.place (c.requires.reads told) (e.during told) (elsewhere g d told)))
    (paper_with s (new x) s.book (passes g d) (λ told. (elsewhere g d told).papers) (λ m up. up))
    (ready_on x e.replaces.size (λ now. absurd (no _ now dead)))
    (lost_on x (λ was. e.replaces.else_lost (DiskPart (near_dev x)) (part_beside x.dev x.ckpt) ∙ was)
    (λ _ shut. gone_closed (old x).now (is_open (of_device x.dev s.renewals)) _ _ c.requires.most c.requires.began (f.acted c.requires.dead c.requires.beside) f.last f.lost shut))

-- AFTER OK

pub invariant_of-self-2 : goal.invariant_of-self-2
invariant_of-self-2 g c =
    let d = (goal.at.invariant_of-self-2 g c).After-replace in
    let x = call g d c.replace.new.pair c.set_place.new.first c.set_place.new.second c.replace.ensures.other c.set_place.ensures.other in
    let y = still g d in
    let s = x.was in
    let C = g.C.Copying in
    let e = c.replace.ensures in
    let ok = c.in_ok-replace.ensures in
    let pages = bytes_of c.args.pages.now in
    facts_with s x.pair x.first x.second (new x) s.printed s.book s.reserved c.end_on.new.renewals e.replaces.later
    (λ told. ∥∥₁_map (s.kept told) (λ k.
    let mid = replaced_keep y pages k (passes g d) c.requires.dead c.requires.dead c.requires.began c.requires.beside c.requires.place (c.requires.reads told) (e.during told) (elsewhere g d told) in
    let reads : C.reads (disk_now (new x) (near_dev x)).bytes ≡ Some pages = ap (λ (y : Disk). C.reads y.bytes) ((elsewhere g d told).others (new x).now e.replaces.later (le_refl (new x).now) (near_dev x) (beside x.dev x.ckpt)) ∙ c.requires.reads told in
    let now = same_was x (new x) mid c.requires.beside c.requires.place pages reads in
    rw (c.end_on.ensures, c.now-until.ensures)
    (ended_keep x (new x) mid ok.ok.0 c.set_place.ensures.place (subst (λ (l : List ℕ). C.rests (there x).copy l (disk_now (new x) x.dev)) now (ok.formed told)) c.requires.beside)))
    (paper_with s (new x) s.book (passes g d) (λ told. (elsewhere g d told).papers) (λ m up. up)) (ready_on x e.replaces.size (λ now. x.laws.ready_fit (there x).copy (new x) ok.ok.1.is_ready))
    (of_both x (λ d h p. h.alive ≡ false → is_open (of_device d c.end_on.new.renewals) ≡ false → (new x).lost (DiskPart d) ≡ true) (λ dead. absurd (no _ ok.ok.0 dead)) (λ dead. absurd (no _ c.requires.beside dead)))
    s.owned (inr refl)

pub replace-requires-clause-enough : goal.replace-requires-clause-enough
replace-requires-clause-enough g c = subst (λ n. pages_least ≤ n) (sym c.requires.as_many) (many_beside c.args.self.now (laws_of g.world g.met.P.Plant g.met.C.Steady g.met.C.Copying) c.args.dev c.requires.ckpt c.requires.beside).0

pub replace-requires-clause-few : goal.replace-requires-clause-few
replace-requires-clause-few g c = subst (λ n. n ≤ pages_most) (sym c.requires.as_many) (many_beside c.args.self.now (laws_of g.world g.met.P.Plant g.met.C.Steady g.met.C.Copying) c.args.dev c.requires.ckpt c.requires.beside).1
