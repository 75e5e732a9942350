use Rattle.mas_complex.proofs.Answering.{List, subst, Entry, StandFor, run, rests_before, copies_of, kept_past, setting_of, view_of, laws_of, pasts_of, ∥∥₁_map}
use Rattle.mas_complex.proofs.complex.Complex.kept_pages.Goals as goal

pub returns : goal.returns
returns g c = let s = c.args.self.now in record {
  noted = λ told. ∥∥₁_map (s.kept told) (pasts_of s (laws_of g.world g.met.P.Plant g.met.C.Steady g.met.C.Copying) told);
  kept = λ told. ∥∥₁_map (s.kept told) (λ k. record {
    was = k.pages.was;
    at_level = k.pages.stands.at_level;
    queue = subst (λ (K : List Entry). StandFor (run s.base K) k.pages.was) (kept_past s) k.pages.stands.queue;
    at = λ d ckpt alive before. rests_before (setting_of s) k.pages.was k.pages.coming (copies_of s d) d (view_of s) (k.at d ckpt) (λ _. before) alive;
  });
}
