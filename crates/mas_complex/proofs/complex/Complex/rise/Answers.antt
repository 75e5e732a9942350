use Rattle.mas_complex.proofs.Answering.{Some, sym, ◌∙◌, Option, None, subst, refl, Batch, Keeps, Opened, ◌≡◌, true, each, some_of, opened_at, copies_of, half_of, past_of, place_of, setting_of, view_of, ∥∥₁_map}
use Rattle.mas_complex.proofs.complex.Complex.rise.Goals as goal

-- over a plant that tells there are no pages in flight without a batch
pub invariant_of-self-clause-kept : goal.invariant_of-self-clause-kept
invariant_of-self-clause-kept g c told =
    let s = c.args.self.now in
    ∥∥₁_map (s.kept told) (λ k.
    let none : Keeps (setting_of s) (past_of s) None s.level (copies_of s) (view_of s) = subst (λ (x : Option Batch). Keeps (setting_of s) (past_of s) x s.level (copies_of s) (view_of s)) c.requires.none k in
    absurd (some_of (λ d. (half_of s d).alive) c.requires.some (λ d ckpt is. let some = opened_at (setting_of s) none.pages.was none.pages.coming d (copies_of s d) (view_of s) (none.at d ckpt) is
    (each (λ d. (half_of s d).alive ≡ true → place_of s d ≡ Opened) c.requires.first c.requires.second d ckpt is) in let clash : None ≡ Some _ = sym (none.pages.none refl) ∙ some.0 in absurd (cc))))
