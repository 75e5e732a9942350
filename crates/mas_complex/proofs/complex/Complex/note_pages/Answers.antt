use Rattle.mas_complex.proofs.Answering.{◌≡◌, Some, true, Page, Before, bytes_of, disk_now, List, sym, subst, each, half_of, place_of, view_of, Keeps, copies_of, laws_of, noted_keep, past_of, setting_of, with_other, ∥∥₁_map}
use Rattle.mas_complex.proofs.complex.Complex.note_pages.Goals as goal

pub invariant_of-self-clause-kept : goal.invariant_of-self-clause-kept
invariant_of-self-clause-kept g c told =
    let s = c.args.self.now in
    let pages = c.args.pages.now in
    ∥∥₁_map (s.kept told) (λ k. subst (λ (l : List (List Page)). Keeps (with_other (setting_of s) s.renewals l) (past_of s) s.current s.level (copies_of s) (view_of s)) (sym c.put_note.ensures.written)
    (noted_keep s (laws_of g.world g.met.P.Plant g.met.C.Steady g.met.C.Copying) k c.args.by.0 pages
    (each (λ d. (half_of s d).alive ≡ true → place_of s d ≡ Before) c.requires.first c.requires.second)
    (each (λ d. (half_of s d).alive ≡ true → g.C.Copying.reads (disk_now (view_of s) d).bytes ≡ Some (bytes_of pages)) (c.requires.reads1 told) (c.requires.reads2 told))))
