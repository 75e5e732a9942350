use Rattle.mas_complex.proofs.Answering.{◌≡◌, ◌∙◌, Some, inl, inr, refl, sym, Dropped, true, Before, ∥∥₁_map, same_keeps, parts_of, pick, pick_same, each, copies_of, ends, facts_at, fated, half_of, past_of, place_of, setting_of, view_of}
use Rattle.mas_complex.proofs.complex.Complex.drop_batch.Goals as goal

pub invariant_of-self : goal.invariant_of-self
invariant_of-self g c =
    let s = c.args.self.now in
    let b = c.in-Some.batch in
    let k = fated Dropped c.now-last.result b in
    let f = facts_at s (Some b) (sym c.take.ensures.value ∙ c.in-Some.is) in
    ends g.P.Plant g.C.Steady g.C.Copying (parts_of s) (view_of s) b f k (inr refl) refl refl c.now-last.ensures c.end_last.new.journal.batches c.take.new.self Before Before s.level c.end_last.ensures c.take.ensures.after
    (λ told. ∥∥₁_map (f.kept told) (λ keeps. same_keeps (setting_of s) (past_of s) b k s.level (copies_of s) (view_of s) keeps refl refl refl c.now-last.ensures
    (λ d. pick d Before Before) (λ d ckpt is. pick_same d Before) (inl refl) (each (λ d. (half_of s d).alive ≡ true → place_of s d ≡ Before) c.requires.first c.requires.second)))
