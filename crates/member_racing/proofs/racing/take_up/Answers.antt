use Rattle.std.proofs.Common.{inr}
use Rattle.member_racing.proofs.Beside.{ease_after, other_acting}
use Rattle.member_racing.proofs.racing.take_up.Goals as goal

pub returns-in_default-clause-takes : goal.returns-in_default-clause-takes
returns-in_default-clause-takes g c = inr c.take_and_reset.ensures.takes

pub returns-in_default-clause-ease : goal.returns-in_default-clause-ease
returns-in_default-clause-ease g c = ease_after c.args.complex.now c.take_and_reset.new.complex c.args.member.now c.take_and_reset.new.member c.take_and_reset.result c.take_and_reset.ensures.next

pub returns-in_default-clause-acting : goal.returns-in_default-clause-acting
returns-in_default-clause-acting g c = other_acting c.args.stage.now c.args.member.now c.take_and_reset.new.member c.in_default.not-Acts c.take_and_reset.result
