use Rattle.mas_complex.proofs.Answering.{Batch, Bool, List, ap, few_placed, is_place, parts_of, past_batches, placed_all, placed_as, refl, subst, sym, true, view_of, without_last-append, [], ℕ, length, journal_most, ◌++◌, ◌∷◌, ◌∙◌, ◌≤◌, is_flying, settled_push, AreFew, FactsOf}
use Rattle.mas_complex.proofs.complex.Complex.add_place.Goals as goal

pub invariant_of-self-2 : goal.invariant_of-self-2
invariant_of-self-2 g c =
    let s = c.args.self.now in
    let js = s.journal.batches in
    let b = c.empty_place-place.result in
    let place = is_place b c.now.result (record { 0 = 0 }) c.empty_place-place.ensures in
    let ok = c.in_ok-push_place.ensures.ok in
    subst (λ (l : List Batch). FactsOf g.P.Plant g.C.Steady g.C.Copying (record (parts_of s) { batches = l; placed = true }) (view_of s)) (sym ok)
    (placed_as s (js ++ b ∷ []) true (without_last-append js b ∙ ap (λ (z : Bool). past_batches z js) (sym c.requires.none)) (λ some. refl) (λ some. refl) ∣ record { before = js; place = b; is = refl; free = place.0 } ∣₁
    (settled_push js b (view_of s).now s.settled (ap is_flying place.0.dropped) place.1 (subst (λ (n : ℕ). b.last ≤ n) c.now.ensures place.2)) (subst (λ (l : List Batch). length l ≤ journal_most) ok c.push_place.ensures.few) (few_placed js b place.0 (subst (λ (z : Bool). AreFew z js) c.requires.none s.counted)))

pub returns-clause-kept : goal.returns-clause-kept
returns-clause-kept g c = rw (c.in_ok-push_place.ensures.ok) (placed_all c.empty_place-place.result (is_place c.empty_place-place.result c.now.result (record { 0 = 0 }) c.empty_place-place.ensures).0 c.args.self.now.journal.batches)
