use Rattle.queue_gone.proofs.GoneLemmas.{gone_step}
use Rattle.queue_gone.proofs.laws.law_of_gone_texts.Goals as goal

pub returns : goal.returns
returns c = gone_step
