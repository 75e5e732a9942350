use Rattle.std.proofs.Common.{◌++◌, ◌∷◌, [], None, sym, ap, ◌∙◌}
use Rattle.job_select.proofs.IndexLemmas.{replicate-more}
use Rattle.job_select.proofs.moving.empty_slots.Goals as goal

pub loop-slot-preserved : goal.loop-slot-preserved
loop-slot-preserved g c = c.in_ok-push.ensures.ok ∙ ap (λ xs. xs ++ None ∷ []) c.loop-slot.invariant ∙ sym (replicate-more c.loop-slot._slot None)
