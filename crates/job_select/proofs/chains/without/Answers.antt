use Rattle.std.proofs.Common.{ℕ, ◌==◌, not, ap, ◌∙◌, rules}
use Rattle.std.proofs.lemmas.Fn.{filter_same}
use Rattle.job_select.specs.Chains.{has_slot}
use Rattle.job_select.proofs.ChainLemmas.{has_slot-without}
use Rattle.job_select.proofs.chains.without.Goals as goal

pub returns : goal.returns
returns c = λ i. ap (has_slot i) (filter_same _ (λ (x : ℕ). not (x == c.args.slot)) _ (search rules) _ _ c.retain.ensures.filtered) ∙ has_slot-without c.args.slots.now.items c.args.slot i
