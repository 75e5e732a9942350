use Rattle.mas_complex.proofs.Answering.{refl, subst, sym, ◌≡◌, ◌∙◌, ap, List, ◌++◌, true, ∥∥₁_map₂, Batch, Before, Entry, Kept, Flying, ◌-◌, ◌^◌, kept_all, entries_reserved, run, AreToldAlike, None, inl, inr, StandFor, parts_of, ℕ, stand_alike, same_keeps, each, copies_of, facts_at, begins, ends, half_of, kept_past, past_of, place_of, setting_of, view_of, one_kept}
use Rattle.mas_complex.proofs.complex.Complex.keep_same.Goals as goal

pub invariant_of-self : goal.invariant_of-self
invariant_of-self g c =
    let s = c.args.self.now in
    let es = c.in-Some.entries in
    let e = ap entries_reserved (sym c.take.ensures.value ∙ c.in-Some.is) in
    let b : Batch = record { first = c.now-now.result; last = 2 ^ 64 - 1; by = c.args.by; fate = Flying; entries = es } in
    let k : Batch = record { first = c.now-now.result; last = c.now-now.result; by = c.args.by; fate = Kept; entries = es } in
    let before = each (λ d. (half_of s d).alive ≡ true → place_of s d ≡ Before) c.requires.first c.requires.second in
    let f = begins g.P.Plant g.C.Steady g.C.Copying (parts_of s) (view_of s) (facts_at s None c.requires.none) b (s.place_reserved c.requires.reserved) refl c.now-now.ensures c.requires.may.holds (entries_reserved s.reserved) e
    (record { own = c.requires.own; short = s.short_reserved; replied = c.requires.replied; allowed = c.requires.allowed; untold = c.requires.untold; texts = c.requires.texts }) c.take.new.self c.count_anew.new.printed c.take.ensures.after c.count_anew.ensures in
    ends g.P.Plant g.C.Steady g.C.Copying (record (parts_of s) { reserved = c.take.new.self; printed = c.count_anew.new.printed }) (view_of s) b f k (inl refl) refl refl c.now-now.ensures
    c.set_last.new.journal.batches s.current s.first s.second s.level c.set_last.ensures c.requires.none
    (λ told. ∥∥₁_map₂ (f.kept told) (c.requires.queue told) (λ keeps alike. same_keeps (setting_of s) (past_of s) b k s.level (copies_of s) (view_of s) keeps refl refl refl c.now-now.ensures
    (place_of s) before
    (inr (
      one_kept k refl,
      subst (λ (K : List Entry). (pages : List ℕ) → StandFor (run s.base K) pages → StandFor (run s.base (K ++ es)) pages) (sym (kept_past s))
          (λ pages. stand_alike (run s.base (kept_all s.journal.batches)) (run s.base (kept_all s.journal.batches ++ es)) pages
          (subst (λ (l : List Entry). AreToldAlike (run s.base (kept_all s.journal.batches)) (run s.base (kept_all s.journal.batches ++ l))) e alike)),
    )) before))
