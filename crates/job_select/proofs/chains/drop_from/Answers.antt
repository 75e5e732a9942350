use Rattle.std.proofs.Common.{◌∙◌}
use Rattle.job_select.proofs.chains.drop_from.Goals as goal

pub returns : goal.returns
returns c = λ k i. c.remove_if_empty.ensures k i ∙ c.take_from.ensures k i
