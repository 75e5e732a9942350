use Rattle.mas_complex.proofs.Answering.{◌≡◌, ◌∙◌, Some, inl, refl, sym, Kept, true, Before, Opened, ∥∥₁_map, kept_keeps, parts_of, pick, pick_same, each, copies_of, ends, facts_at, fated, half_of, past_of, place_of, setting_of, view_of}
use Rattle.mas_complex.proofs.complex.Complex.keep.Goals as goal

pub invariant_of-self : goal.invariant_of-self
invariant_of-self g c =
    let s = c.args.self.now in
    let b = c.in-Some.batch in
    let k = fated Kept c.now-last.result b in
    let f = facts_at s (Some b) (sym c.take.ensures.value ∙ c.in-Some.is) in
    ends g.P.Plant g.C.Steady g.C.Copying (parts_of s) (view_of s) b f k (inl refl) refl refl c.now-last.ensures c.end_last.new.journal.batches c.take.new.self Before Before c.args.reached c.end_last.ensures c.take.ensures.after
    (λ told. ∥∥₁_map (f.kept told) (λ keeps. rw (c.requires.next told) (kept_keeps (setting_of s) (past_of s) b k s.level (copies_of s) (view_of s) keeps refl refl refl c.now-last.ensures
    (λ d. pick d Before Before) (λ d ckpt is. pick_same d Before) refl c.requires.some (each (λ d. (half_of s d).alive ≡ true → place_of s d ≡ Opened) c.requires.first c.requires.second))))
