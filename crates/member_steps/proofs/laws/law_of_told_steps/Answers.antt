use Rattle.member_steps.proofs.UntoldLemmas.{tell_no_later_step}
use Rattle.member_steps.proofs.laws.law_of_told_steps.Goals as goal

pub returns : goal.returns
returns c = tell_no_later_step
