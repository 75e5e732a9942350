use Rattle.mas_complex.proofs.Answering.{∥∥₁_map, List, subst, Entry, AreLinesOn, IsOnPaper, counts_of, kept_past, view_of}
use Rattle.mas_complex.proofs.complex.Complex.printed_lines.Goals as goal

pub returns-clause-paper : goal.returns-clause-paper
returns-clause-paper g c told sound =
    let s = c.args.self.now in
    ∥∥₁_map (s.paper told sound) (λ on. subst (λ (K : List Entry). AreLinesOn (IsOnPaper ((view_of s).world (view_of s).now).paper) s.base (counts_of s.printed) K) (kept_past s) on.kept_lines)
