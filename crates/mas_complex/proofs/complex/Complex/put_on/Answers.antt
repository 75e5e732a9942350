use Rattle.mas_complex.proofs.Answering.{◌≡◌, true, Some, subst, sym, Coded-set, coded_list, coded_ℕ, bytes_of, level, AllRead, Place, Before, Put, Touched, other, disk_now, held_then, IsNear, Elsewhere, entries_in, IsPlaceAfter, test_cases, List, ◌++◌, Entry, StandFor, run, no, elsewhere_of, elsewhere_is, Call, at_near, copy_here, copy_near, copy_there, facts_on, here, keeps_on, lost_acted, near_dev, near_it, new, old, rests_here, there, dead_of, comes_near, is_higher, kept_past, laws_of, setting_of, IfSome, KeepsAt, OnOk, all_read, disk_at, idle, keeps_same, near_place, no_other, passes_of, told_then, touched_by, touches, with_coming, ∥∥₁_map, ∥∥₁_elim, ∥∥₁_prop, ∥∥₁_map₂, ⊎_elim, Option, ℕ, call_of, ap, arith, length}
use Rattle.mas_complex.proofs.complex.Complex.put_on.Given.{Over}
use Rattle.mas_complex.proofs.complex.Complex.put_on.Goals.{After-set_place}
use Rattle.mas_complex.proofs.complex.Complex.put_on.Goals as goal

abbrev call : (g : Over) → After-set_place g → Call g.P.Plant g.C.Steady g.C.Copying
call g c = call_of (laws_of g.world g.met.P.Plant g.met.C.Steady g.met.C.Copying) c.args.self.now c.args.dev c.requires.ckpt c.put-done.new.self c.set_place.new.first c.set_place.new.second c.put-done.new.plant c.put-done.ensures.other c.set_place.ensures.other

elsewhere : (g : Over) (c : After-set_place g) → g.P.Plant.tells → Elsewhere c.args.dev (old (call g c)) (new (call g c))
elsewhere g c told =
    let x = call g c in
    elsewhere_is x.dev (old x) (new x) (∥∥₁_map (x.was.kept told) (λ k. elsewhere_of x.dev (Touched (here x).alive (AllRead g.C.Copying.reads k.pages.was) (disk_now (old x) x.dev)) (old x) (new x) (c.put-done.ensures.during told k.pages.was (rests_here x k c.requires.place))))

-- the copy of the device, once the pages wait behind its gate
holds : (g : Over) (c : After-set_place g) → g.P.Plant.tells → (k : KeepsAt c.args.self.now (old (call g c))) → OnOk c.put-done.result ((there (call g c)).alive ≡ true → g.C.Copying.holds (there (call g c)).copy k.pages.was (bytes_of c.args.pages.now) (disk_now (new (call g c)) c.args.dev))
holds g c told k =
    let x = call g c in
    let e = c.put-done.ensures in
    held_then c.put-done.result e.held (λ held now.
    let rests = rests_here x k c.requires.place (e.acted.alive now) in
    held told now k.pages.was rests (is_higher (level k.pages.was) (level (bytes_of c.args.pages.now)) x.was.level k.pages.stands.at_level (c.requires.level told)) (c.requires.covered told (e.acted.alive now) k.pages.was (x.laws.rests_now (here x).copy k.pages.was (disk_now (old x) x.dev) rests)))

pub invariant_of-self : goal.invariant_of-self
invariant_of-self g c =
    let x = call g c in
    let C = g.C.Copying in
    let S = setting_of x.was in
    let o = (near_it x).copy in
    let e = c.put-done.ensures in
    let pages = bytes_of c.args.pages.now in
    let passes = passes_of (old x) (new x) e.acted.goes in
    facts_on x e.acted.goes (elsewhere g c)
    (λ told. ∥∥₁_elim (x.was.kept told) ∥∥₁_prop (λ k. ∥∥₁_map₂ (c.requires.queue told) (c.requires.later told) (λ q later.
    let rests = rests_here x k c.requires.place in
    let m = (e.during told k.pages.was rests).here in
    let other = λ (is : (near_it x).alive ≡ true). no_other S k.pages.was k.pages.coming (copy_near x) (near_dev x) (old x) (at_near x k) (C.behind o) (λ was next d r. x.laws.holds_behind o was next d r) (λ was d r. x.laws.rests_now o was d r) pages is (c.requires.same told is) in
    let raised : (here x).alive ≡ true → ((near_it x).alive ≡ true → near_place x ≡ Before) → IsNear k.first_level k.first_order pages
    = λ is before. comes_near k.first_level k.first_order k.pages.was pages k.pages.near (c.requires.orders told is before k.pages.was (x.laws.rests_now (here x).copy k.pages.was (disk_now (old x) x.dev) (rests is))) (omega (arith, k.pages.stands.at_level, c.requires.level told)) in
    test_cases (here x).alive _
    (λ is.
    keeps_on x passes (elsewhere g c told) k (record {
      was = k.pages.was;
      coming = Some pages;
      stands = k.pages.stands;
      comes = record { at_level = c.requires.level told; queue = subst (λ (K : List Entry). StandFor (run x.was.base (K ++ entries_in x.was.current)) pages) (sym (kept_past x.was)) q };
      none = λ none. let e : length (entries_in x.was.current) ≡ 0 = ap length none in absurd (omega (arith, e, c.requires.some told));
      near = k.pages.near;
      comes_near = test_cases (near_it x).alive (IsNear k.first_level k.first_order pages)
          (λ near. ⊎_elim (λ before. raised is (λ _. before)) (λ same. subst (λ (n : Option (List ℕ)). IfSome n (IsNear k.first_level k.first_order)) same k.pages.comes_near) (other near))
          (λ dead. raised is (λ near. absurd (no (near_it x).alive near dead)));
    })
    (with_coming S k.pages.was k.pages.coming (copy_near x) (near_dev x) (old x) (at_near x k) pages other)
    (touches S k.pages.was (Some pages) x.dev (copy_there x) (old x) (new x) k.pages.coming (copy_here x) (k.at x.dev x.ckpt) passes.later e.acted.alive c.put-done.result Put (AllRead C.reads k.pages.was) (λ _ d all. all_read S k.pages.was (Some pages) d all) m (e.gone told)
    (λ both. dead_of x.dev x.ckpt x.pair.first x.pair.second (e.both both)) (subst (λ (p : Place). IsPlaceAfter c.put-done.result Put p) (sym c.set_place.ensures.place) c.place_after-place.ensures) (holds g c told k))
    (λ d ckpt _. ((k.later x.dev x.ckpt is).0, later is)))
    (λ dead. keeps_same x passes (elsewhere g c told) e.acted.alive k
    (idle S k.pages.was k.pages.coming x.dev (copy_there x) (old x) (new x) k.pages.coming (copy_here x) (k.at x.dev x.ckpt) passes.later e.acted.alive dead (λ t from le. (touched_by (AllRead C.reads k.pages.was) (here x).alive (disk_now (old x) x.dev) (disk_at (new x) t x.dev) (m t from le)).1 dead))))))
    (λ now. x.laws.ready_fit (there x).copy (new x) (e.ready (e.acted.alive now))) (lost_acted x c.args.by.0 _ e.acted)

pub returns-clause-elsewhere : goal.returns-clause-elsewhere
returns-clause-elsewhere g c = elsewhere g (goal.at.returns-clause-elsewhere g c).After-set_place

pub returns-clause-behind : goal.returns-clause-behind
returns-clause-behind g c =
    let w = (goal.at.returns-clause-behind g c).After-set_place in
    let x = call g w in
    told_then _ _ c.put-done.result x.was.kept (Coded-set (coded_list coded_ℕ) _ _) (λ told k. held_then c.put-done.result (holds g w told k) (λ holds now. x.laws.holds_behind (there x).copy k.pages.was (bytes_of c.args.pages.now) (disk_now (new x) x.dev) (holds now)))
