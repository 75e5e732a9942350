use Rattle.mas_complex.proofs.Answering.{Batch, Bool, List, None, Option, ap, false, few_at_end, few_unplaced, no, parts_of, past_batches, placed_as, refl, settled_without_last, subst, sym, true, view_of, without_last, IsSome, FactsOf}
use Rattle.mas_complex.proofs.complex.Complex.drop_place.Goals as goal

pub invariant_of-self : goal.invariant_of-self
invariant_of-self g c =
    let s = c.args.self.now in
    let js = s.journal.batches in
    subst (λ (l : List Batch). FactsOf g.P.Plant g.C.Steady g.C.Copying (record (parts_of s) { batches = l; placed = false }) (view_of s)) (sym c.drop_last.ensures)
    (placed_as s (without_last js) false (ap (λ (z : Bool). past_batches z js) (sym c.requires.placed)) (λ some. absurd (no false (subst (λ (o : Option _). IsSome o) c.requires.none some) refl)) (λ some. absurd (no false (subst (λ (o : Option _). IsSome o) c.requires.unreserved some) refl))
    ∣ tt ∣₁ (settled_without_last js (view_of s).now s.settled) (few_at_end true None js s.few) (few_unplaced s.placed js c.requires.placed s.place s.counted))
