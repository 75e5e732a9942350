use Rattle.mas_complex.proofs.Answering.{ℕ, half_in, ViewDisk as Disk, Disk as DiskPart, ◌≡◌, true, Coded-set, coded_list, coded_option, coded_ℕ, bytes_of, AllRead, BothMeanwhile, Touched, Ckpt1, Ckpt2, disk_now, held_then, copy_of, List, OnOk, Some, false, Place, Before, IsCkpt, pick, Dev, View, IsGone, IsPlaceAfter, disk_at, on_both, pair_lost, KeepsAt, copies_of, facts, half_of, laws_of, paper_after, past_of, place_of, ready_of, setting_of, view_of, dead_of, each, Throughout, all_read, kept_read, rests_before, subst, sym, told_then, touches, ∥∥₁_map, ∥∥₁_elim, passes_of, copies_went, props, OnCopies}
use Rattle.mas_complex.proofs.complex.Complex.settle.Given.{Over}
use Rattle.mas_complex.proofs.complex.Complex.settle.Goals.{After-place_after-self-2}
use Rattle.mas_complex.proofs.complex.Complex.settle.Goals as goal

-- what is asked of each copy
module _ (g : Over) (c : After-place_after-self-2 g) where
  abbrev pages : List ℕ
  pages = bytes_of c.args.pages.now

  before : (d : Dev) → IsCkpt d → (half_of c.args.self.now d).alive ≡ true → place_of c.args.self.now d ≡ Before
  before = each (λ d. (half_of c.args.self.now d).alive ≡ true → place_of c.args.self.now d ≡ Before) c.requires.first c.requires.second

  module _ (told : g.P.Plant.tells) (k : KeepsAt c.args.self.now (view_of c.args.self.now)) where
    same : (d : Dev) → IsCkpt d → (half_of c.args.self.now d).alive ≡ true → k.pages.was ≡ pages
    same d ckpt = kept_read (setting_of c.args.self.now) k.pages.was k.pages.coming d (copies_of c.args.self.now d) (view_of c.args.self.now) pages (k.at d ckpt) (before d ckpt) (λ was x r. g.met.C.Copying.rests_now (half_of c.args.self.now d).copy was x r) (each (λ d. (half_of c.args.self.now d).alive ≡ true → g.C.Copying.reads (disk_now (view_of c.args.self.now) d).bytes ≡ Some pages) (c.requires.reads1 told) (c.requires.reads2 told) d ckpt)

    -- what each copy that counts as alive is at rest with
    rests : (d : Dev) → IsCkpt d → (half_of c.args.self.now d).alive ≡ true → g.C.Copying.rests (half_of c.args.self.now d).copy pages (disk_now (view_of c.args.self.now) d)
    rests d ckpt is = subst (λ (l : List ℕ). g.C.Copying.rests (half_of c.args.self.now d).copy l (disk_now (view_of c.args.self.now) d)) (same d ckpt is) (rests_before (setting_of c.args.self.now) k.pages.was k.pages.coming (copies_of c.args.self.now d) d (view_of c.args.self.now) (k.at d ckpt) (before d ckpt) is)

    abbrev Touches : Dev → Disk → Type 0
    Touches d = Touched (half_of c.args.self.now d).alive (AllRead g.C.Copying.reads pages) (disk_now (view_of c.args.self.now) d)

    all : BothMeanwhile (Touches Ckpt1) (Touches Ckpt2) (view_of c.args.self.now) (g.P.Plant.view c.settle-done.new.plant)
    all = c.settle-done.ensures.during told (rests Ckpt1 tt) (rests Ckpt2 tt)

    settled : (d : Dev) → IsCkpt d → OnOk c.settle-done.result ((half_in c.settle-done.new.self d).alive ≡ true → g.C.Copying.rests (half_in c.settle-done.new.self d).copy pages (disk_now (g.P.Plant.view c.settle-done.new.plant) d))
    settled = each (λ d. OnOk c.settle-done.result ((half_in c.settle-done.new.self d).alive ≡ true → g.C.Copying.rests (half_in c.settle-done.new.self d).copy pages (disk_now (g.P.Plant.view c.settle-done.new.plant) d)))
        (held_then c.settle-done.result c.settle-done.ensures.settled1 (λ a. a told (rests Ckpt1 tt) (rests Ckpt2 tt))) (held_then c.settle-done.result c.settle-done.ensures.settled2 (λ a. a told (rests Ckpt1 tt) (rests Ckpt2 tt)))

  -- what the call leaves as it was, and what each copy reads then, need no choice
  leaves : g.P.Plant.tells → OnCopies (view_of c.args.self.now) (g.P.Plant.view c.settle-done.new.plant)
  leaves told = ∥∥₁_elim (c.args.self.now.kept told) (hlevel props) (λ k. on_both _ _ (view_of c.args.self.now) (g.P.Plant.view c.settle-done.new.plant) (all told k))

  still : (d : Dev) → IsCkpt d → OnOk c.settle-done.result (g.P.Plant.tells → (half_in c.settle-done.new.self d).alive ≡ true → g.C.Copying.reads (disk_now (g.P.Plant.view c.settle-done.new.plant) d).bytes ≡ Some pages)
  still d ckpt = told_then _ _ c.settle-done.result c.args.self.now.kept (Coded-set (coded_option (coded_list coded_ℕ)) _ _)
      (λ told k. held_then c.settle-done.result (settled told k d ckpt) (λ a now. g.met.C.Copying.rests_now (half_in c.settle-done.new.self d).copy pages (disk_now (g.P.Plant.view c.settle-done.new.plant) d) (a now)))

pub invariant_of-self : goal.invariant_of-self
invariant_of-self g c =
    let s = c.args.self.now in
    let C = g.C.Copying in
    let old = view_of s in
    let p = c.settle-done.new.self in
    let e = c.settle-done.ensures in
    let v = g.P.Plant.view c.settle-done.new.plant in
    let place = λ (d : Dev). pick d c.place_after-self.result c.place_after-self-2.result in
    let alive = each (λ d. (half_in p d).alive ≡ true → (half_of s d).alive ≡ true) e.acted.alive1 e.acted.alive2 in
    facts s p c.place_after-self.result c.place_after-self-2.result v e.acted.goes.later
    (λ told. ∥∥₁_map (s.kept told) (λ k.
    let m = all g c told k in
    copies_went (setting_of s) (past_of s) s.current s.level (copies_of s) (λ d. copy_of C.rests C.holds (half_in p d) (place d)) old v k k.pages (passes_of old v m.goes) (record { volumes = m.others; console = m.console })
    (λ d ckpt. touches (setting_of s) k.pages.was k.pages.coming d (copy_of C.rests C.holds (half_in p d) (place d)) old v k.pages.coming (copies_of s d) (k.at d ckpt) m.goes.later (alive d ckpt) c.settle-done.result Before (AllRead C.reads (pages g c))
    (λ is x all. all_read (setting_of s) k.pages.was k.pages.coming x (subst (λ (l : List ℕ). AllRead C.reads l x) (sym (same g c told k d ckpt is)) all))
    (each (λ d. Throughout old.now v.now (λ t. Touches g c told k d (disk_at v t d))) m.first m.second d ckpt)
    (each (λ d. IsGone d (half_of s d).alive (half_in p d).alive v) (e.gone1 told (rests g c told k Ckpt1 tt) (rests g c told k Ckpt2 tt)) (e.gone2 told) d ckpt) (λ both. dead_of d ckpt p.first p.second (e.both both))
    (each (λ d. IsPlaceAfter c.settle-done.result Before (place d)) c.place_after-self.ensures c.place_after-self-2.ensures d ckpt)
    (held_then c.settle-done.result (settled g c told k d ckpt) (λ a now. subst (λ (l : List ℕ). C.rests (half_in p d).copy l (disk_now v d)) (sym (same g c told k d ckpt (alive d ckpt now))) (a now))))
    (λ d ckpt is. k.later d ckpt (alive d ckpt is))))
    (paper_after s v e.acted.goes (λ told. (leaves g c told).papers))
    (λ d ckpt is. g.met.C.Steady.ready_fit (half_in p d).copy v (each (λ d. (half_in p d).alive ≡ true → C.ready (half_in p d).copy v) e.ready.first e.ready.second d ckpt is))
    (λ d ckpt. pair_lost d (half_of s d).alive (half_in p d).alive old v e.acted.goes (each (λ d. (half_of s d).alive ≡ true → (half_in p d).alive ≡ false → v.lost (DiskPart d) ≡ true) e.acted.is_lost1 e.acted.is_lost2 d ckpt) (s.lost d ckpt))

pub returns-clause-apart : goal.returns-clause-apart
returns-clause-apart g c = leaves g (goal.at.returns-clause-apart g c).After-place_after-self-2

pub returns-clause-papers : goal.returns-clause-papers
returns-clause-papers g c told = (leaves g (goal.at.returns-clause-papers g c).After-place_after-self-2 told).papers

pub returns-clause-throughout : goal.returns-clause-throughout
returns-clause-throughout g c told = (leaves g (goal.at.returns-clause-throughout g c).After-place_after-self-2 told).volumes

pub returns-clause-still1 : goal.returns-clause-still1
returns-clause-still1 g c = still g (goal.at.returns-clause-still1 g c).After-place_after-self-2 Ckpt1 tt

pub returns-clause-still2 : goal.returns-clause-still2
returns-clause-still2 g c = still g (goal.at.returns-clause-still2 g c).After-place_after-self-2 Ckpt2 tt

pub settle-done-requires-clause-ready : goal.settle-done-requires-clause-ready
settle-done-requires-clause-ready g c = ready_of c.args.self.now (laws_of g.world g.met.P.Plant g.met.C.Steady g.met.C.Copying)
