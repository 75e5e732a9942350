use Rattle.mas_complex.proofs.Answering.{◌≡◌, ◌++◌, Result, Ok, Err, IfOk, refl, subst, sym, Coded-set, coded_ℕ, NoMore, bytes_of, Place, pick, WasSeen, Look, Lost, Unread, Pages, LookNo, disk_now, kept_all, entries_in, run, Elsewhere, HasNext, IsPlaceSeen, List, false, Page, Entry, StandFor, elsewhere_of, Call, copy_here, copy_there, facts_on, here, keeps_same, lost_acted, new, old, place_is, place_was, there, look_next, look_stands, seen_fits, KeepsAt, copies_of, kept_past, laws_of, past_of, setting_of, ReadsOne, le_prop, look_at, meanwhile_end, passes_of, quiet, ∥∥₁_map, ∥∥₁_elim, pair_one, less_reads, call_of}
use Rattle.mas_complex.proofs.complex.Complex.look_on.Given.{Over}
use Rattle.mas_complex.proofs.complex.Complex.look_on.Goals.{After-set_place}
use Rattle.mas_complex.proofs.complex.Complex.look_on.Goals as goal

abbrev call : (g : Over) → After-set_place g → Call g.P.Plant g.C.Steady g.C.Copying
call g c = call_of (laws_of g.world g.met.P.Plant g.met.C.Steady g.met.C.Copying) c.args.self.now c.args.dev c.requires.ckpt c.look-done.new.self c.set_place.new.first c.set_place.new.second c.look-done.new.plant c.look-done.ensures.other c.set_place.ensures.other

after : (g : Over) (c : After-set_place g) → IsPlaceSeen c.look-done.result c.args.self.now.level (place_is (call g c))
after g c = subst (λ (p : Place). IsPlaceSeen c.look-done.result c.args.self.now.level p) (sym c.set_place.ensures.place) c.place_seen-place.ensures

elsewhere : (g : Over) (c : After-set_place g) → g.P.Plant.tells → Elsewhere c.args.dev (old (call g c)) (new (call g c))
elsewhere g c told =
    let x = call g c in
    elsewhere_of x.dev (NoMore (disk_now (old x) x.dev)) (old x) (new x) (c.look-done.ensures.during told)

-- what was found on the copy, if pages were
found : (g : Over) (c : After-set_place g) → g.P.Plant.tells → (pages : List Page) → c.look-done.result ≡ Ok (Pages pages)
    → ((disk_now (new (call g c)) c.args.dev).lost ≡ false) × g.C.Copying.rests (there (call g c)).copy (bytes_of pages) (disk_now (new (call g c)) c.args.dev)
found g c told pages is =
    let x = call g c in
    let C = g.C.Copying in
    let seen = subst (λ (r : Result Look LookNo). IfOk r (λ look. WasSeen C.count C.room C.room_most C.ready C.reads C.rests g.P.Plant.tells x.dev (new x) (here x).copy (there x).copy (there x).alive look)) is c.look-done.ensures.seen in
    (x.laws.there x.plant told x.dev seen.there, seen.found told)

-- what each image of the copy reads as after the look
reads : (g : Over) (c : After-set_place g) → g.P.Plant.tells → (k : KeepsAt c.args.self.now (old (call g c))) → ReadsOne (setting_of c.args.self.now) k.pages.was k.pages.coming (disk_now (new (call g c)) c.args.dev)
reads g c told k =
    let x = call g c in
    less_reads (setting_of x.was) k.pages.was k.pages.coming (copy_here x) (disk_now (old x) x.dev) (disk_now (new x) x.dev) (x.laws.reads (here x) (place_was x)) (meanwhile_end x.dev (NoMore (disk_now (old x) x.dev)) (old x) (new x) (c.look-done.ensures.during told)) ((k.at x.dev x.ckpt).at c.requires.alive)

pub invariant_of-self : goal.invariant_of-self
invariant_of-self g c =
    let x = call g c in
    let C = g.C.Copying in
    let e = c.look-done.ensures in
    let passes = passes_of (old x) (new x) e.acted.goes in
    facts_on x e.acted.goes (elsewhere g c)
    (λ told. ∥∥₁_map (x.was.kept told) (λ k. keeps_same x passes (elsewhere g c told) e.acted.alive k
    (quiet (setting_of x.was) k.pages.was k.pages.coming x.dev (copy_there x) (old x) (new x) (copy_here x) (k.at x.dev x.ckpt) passes.later e.acted.alive (x.laws.reads (here x) (place_was x)) (e.during told).here (e.gone told)
    (λ _ reads _. look_at (setting_of x.was) k.pages.was k.pages.coming (copy_there x) (disk_now (new x) x.dev) (x.laws.reads (there x) (place_is x)) reads c.look-done.result (found g c told) x.was.level (kept_all (past_of x.was)) (entries_in x.was.current) k.pages.stands k.pages.comes (after g c)))))
    (λ now. seen_fits C.count C.room C.room_most C.ready C.reads C.rests g.P.Plant.tells x.dev (new x) (here x) (there x) c.look-done.result e.seen e.err now (λ y. g.C.Steady.fits y (new x)) (λ y ready. x.laws.ready_fit y (new x) ready)
    (g.C.Steady.stays_fit (here x).copy (old x) (new x) e.acted.goes (x.was.ready x.dev x.ckpt (e.acted.alive now))))
    (lost_acted x c.args.by.0 _ e.acted)

pub returns-clause-next : goal.returns-clause-next
returns-clause-next g c =
    by_result c.look-done.result refl where
      by_result : (d : Result Look LookNo) → c.look-done.result ≡ d → IfOk d (λ look. g.P.Plant.tells → HasNext (run c.args.self.now.base (kept_all c.args.self.now.journal.batches ++ entries_in c.args.self.now.current)) (entries_in c.args.self.now.current) c.args.self.now.level (pick c.args.dev c.set_place.new.first c.set_place.new.second) look)
      by_result (Ok Lost) is = λ told. tt
      by_result (Ok Unread) is = λ told. tt
      by_result (Err y) is = tt
      by_result (Ok (Pages pages)) is = λ told opened.
          let w = (goal.at.returns-clause-next g c).After-set_place in
          let x = call g w in
          let s = x.was in
          let next = λ (k : KeepsAt s (old x)). look_stands (setting_of s) (past_of s) s.current s.level (copies_of s) (old x) k (bytes_of pages)
          (look_next (setting_of s) k.pages.was k.pages.coming (copy_there x) (disk_now (new x) x.dev) (x.laws.reads (there x) (place_is x)) (reads g w told k) c.look-done.result (found g w told) s.level (kept_all (past_of s)) (entries_in s.current) k.pages.stands k.pages.comes (after g w) pages is opened) in
          (∥∥₁_elim (s.kept told) (Coded-set coded_ℕ _ _) (λ k. (next k).0.at_level), ∥∥₁_map (s.kept told) (λ k. subst (λ (K : List Entry). StandFor (run s.base (K ++ entries_in s.current)) (bytes_of pages)) (kept_past s) (next k).0.queue), ∥∥₁_elim (s.kept told) le_prop (λ k. (next k).1))

pub returns-clause-leaves : goal.returns-clause-leaves
returns-clause-leaves g c =
    let x = call g (goal.at.returns-clause-leaves g c).After-set_place in
    pair_one c.args.by.0 x.was.pair x.pair (old x) (new x) _ x.dev x.ckpt x.same c.look-done.ensures.acted (elsewhere g (goal.at.returns-clause-leaves g c).After-set_place)
