use Rattle.mas_complex.proofs.Answering.{∥∥₁_map, List, subst, Entry, HasTexts, lost_now, spools_at, run, ◌++◌, entries_in, kept_past, view_of, false, true}
use Rattle.mas_complex.proofs.complex.Complex.kept_texts.Goals as goal

pub returns : goal.returns
returns g c = let s = c.args.self.now in record {
  kept = λ told. ∥∥₁_map (s.kept told) (λ k. subst (λ (K : List Entry). HasTexts (lost_now (view_of s)) (spools_at (view_of s) (view_of s).now) s.base.config.groups (run s.base K)) (kept_past s) (k.stood.0 false));
  coming = λ told. ∥∥₁_map (s.kept told) (λ k. subst (λ (K : List Entry). HasTexts (lost_now (view_of s)) (spools_at (view_of s) (view_of s).now) s.base.config.groups (run s.base (K ++ entries_in s.current))) (kept_past s) (k.stood.0 true));
}
