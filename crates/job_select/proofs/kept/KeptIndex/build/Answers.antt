use Rattle.std.proofs.Common.{sym, ◌∙◌}
use Rattle.job_select.proofs.FollowLemmas.{done_ok}
use Rattle.job_select.proofs.kept.KeptIndex.build.Goals as goal

pub returns : goal.returns
returns c = λ current. done_ok c.follow.result c.follow.ensures (sym c.is_ok-self.ensures.value ∙ current)
