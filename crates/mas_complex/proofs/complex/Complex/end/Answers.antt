use Rattle.mas_complex.proofs.Answering.{values_of, subst, sym, List, Batch, Headline, length, ◌∙◌, ◌≤◌, journal_most, few_at_end, headline_of, end_is, kept_paper, copies_of, half_of, laws_of, past_of, place_of, view_of, ∥∥₁_map}
use Rattle.mas_complex.proofs.complex.Complex.end.Goals as goal

pub returns-clause-headline : goal.returns-clause-headline
returns-clause-headline g c told =
    let s = c.args.self in
    let out = end_is s.placed s.current s.journal.batches s.place_current s.place in
    ∥∥₁_map (s.kept told) (λ k.
    subst (λ (l : List Batch). Headline g.C.Copying.reads s.base s.since (record { batches = l }) s.renewals (view_of s)) (out ∙ sym c.finished-journal.ensures)
    (headline_of g.C.Copying.reads s.base s.since s.renewals (values_of s.had) (past_of s) s.current s.level (copies_of s) (view_of s) k c.moment_of-last.ensures.most s.lost (λ d. (laws_of g.world g.met.P.Plant g.met.C.Steady g.met.C.Copying).reads (half_of s d) (place_of s d))
    (subst (λ (l : List Batch). length l ≤ journal_most) (sym out) (few_at_end s.placed s.current s.journal.batches s.few)) (λ sound. ∥∥₁_map (s.paper told sound) (λ on. kept_paper s.base s.since (past_of s) s.current s.printed s.book (view_of s) k.settled k.begun sound on))))
