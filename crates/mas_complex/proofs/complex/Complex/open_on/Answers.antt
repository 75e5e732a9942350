use Rattle.mas_complex.proofs.Answering.{◌≡◌, true, subst, sym, ap, Coded-set, coded_list, coded_ℕ, coded_option, EachReads, Place, Opened, disk_now, held_then, OnComing, Elsewhere, IsPlaceAfter, elsewhere_of, elsewhere_is, Call, copy_here, copy_there, facts_on, here, keeps_same, lost_acted, new, old, there, dead_of, KeepsAt, laws_of, setting_of, OnOk, Some, each_reads, held_at, passes_of, sent, told_then, touches, ∥∥₁_map, ◌∙◌, List, Option, ℕ, call_of}
use Rattle.mas_complex.proofs.complex.Complex.open_on.Given.{Over}
use Rattle.mas_complex.proofs.complex.Complex.open_on.Goals.{After-set_place}
use Rattle.mas_complex.proofs.complex.Complex.open_on.Goals as goal

abbrev call : (g : Over) → After-set_place g → Call g.P.Plant g.C.Steady g.C.Copying
call g c = call_of (laws_of g.world g.met.P.Plant g.met.C.Steady g.met.C.Copying) c.args.self.now c.args.dev c.requires.ckpt c.open_copy-done.new.self c.set_place.new.first c.set_place.new.second c.open_copy-done.new.plant c.open_copy-done.ensures.other c.set_place.ensures.other

-- the pages that wait behind the gate of the copy, and the copy once they are opened
held : (g : Over) (c : After-set_place g) (k : KeepsAt c.args.self.now (old (call g c))) → (here (call g c)).alive ≡ true → (k.pages.coming ≡ Some (sent k.pages.coming)) × g.C.Copying.holds (here (call g c)).copy k.pages.was (sent k.pages.coming) (disk_now (old (call g c)) c.args.dev)
held g c k is = let x = call g c in held_at (setting_of x.was) k.pages.was k.pages.coming (copy_here x) x.dev (old x) (k.at x.dev x.ckpt) is (c.requires.place is)

opened : (g : Over) (c : After-set_place g) → g.P.Plant.tells → (k : KeepsAt c.args.self.now (old (call g c))) → OnOk c.open_copy-done.result ((there (call g c)).alive ≡ true → g.C.Copying.rests (there (call g c)).copy (sent k.pages.coming) (disk_now (new (call g c)) c.args.dev))
opened g c told k = held_then c.open_copy-done.result c.open_copy-done.ensures.opened (λ opened now. opened told now k.pages.was (sent k.pages.coming) (held g c k (c.open_copy-done.ensures.acted.alive now)).1)

elsewhere : (g : Over) (c : After-set_place g) → g.P.Plant.tells → Elsewhere c.args.dev (old (call g c)) (new (call g c))
elsewhere g c told =
    let x = call g c in
    elsewhere_is x.dev (old x) (new x) (∥∥₁_map (x.was.kept told) (λ k. elsewhere_of x.dev _ (old x) (new x) (c.open_copy-done.ensures.during told k.pages.was (sent k.pages.coming) (λ is. (held g c k is).1))))

pub invariant_of-self : goal.invariant_of-self
invariant_of-self g c =
    let x = call g c in
    let C = g.C.Copying in
    let S = setting_of x.was in
    let e = c.open_copy-done.ensures in
    let passes = passes_of (old x) (new x) e.acted.goes in
    facts_on x e.acted.goes (elsewhere g c)
    (λ told. ∥∥₁_map (x.was.kept told) (λ k. keeps_same x passes (elsewhere g c told) e.acted.alive k
    (touches S k.pages.was k.pages.coming x.dev (copy_there x) (old x) (new x) k.pages.coming (copy_here x) (k.at x.dev x.ckpt) passes.later e.acted.alive c.open_copy-done.result Opened (EachReads C.reads k.pages.was (sent k.pages.coming)) (λ is d each. each_reads S k.pages.was k.pages.coming d (sent k.pages.coming) (held g c k is).0 each)
    (e.during told k.pages.was (sent k.pages.coming) (λ is. (held g c k is).1)).here (e.gone told)
    (λ both. dead_of x.dev x.ckpt x.pair.first x.pair.second (e.both both)) (subst (λ (p : Place). IsPlaceAfter c.open_copy-done.result Opened p) (sym c.set_place.ensures.place) c.place_after-place.ensures) (held_then c.open_copy-done.result (opened g c told k) (λ opened now. subst (λ (n : Option (List ℕ)). OnComing n (λ p. C.rests (there x).copy p (disk_now (new x) x.dev))) (sym (held g c k (e.acted.alive now)).0) (opened now))))))
    (λ now. x.laws.ready_fit (there x).copy (new x) (e.ready (e.acted.alive now))) (lost_acted x c.args.by.0 _ e.acted)

pub returns-clause-elsewhere : goal.returns-clause-elsewhere
returns-clause-elsewhere g c = elsewhere g (goal.at.returns-clause-elsewhere g c).After-set_place

pub returns-clause-reads : goal.returns-clause-reads
returns-clause-reads g c =
    let w = (goal.at.returns-clause-reads g c).After-set_place in
    let x = call g w in
    let e = c.open_copy-done.ensures in
    told_then _ _ c.open_copy-done.result x.was.kept (Coded-set (coded_option (coded_list coded_ℕ)) _ _) (λ told k. held_then c.open_copy-done.result (opened g w told k) (λ opened now.
    x.laws.rests_now (there x).copy (sent k.pages.coming) (disk_now (new x) x.dev) (opened now) ∙ ap Some (sym (x.laws.holds_behind (here x).copy k.pages.was (sent k.pages.coming) (disk_now (old x) x.dev) (held g w k (e.acted.alive now)).1))))
