use Rattle.std.proofs.Common.{◌∙◌}
use Rattle.queue_effect.proofs.Changing.{current_some, current_none, no_line}
use Rattle.queue_effect.proofs.wire.current_on.Goals as goal

pub returns-in-Some-clause-some : goal.returns-in-Some-clause-some
returns-in-Some-clause-some c = current_some c.args.tables.now c.args.line c.in-Some.count c.first_slot.result (λ Q stands. c.wire.ensures Q stands ∙ c.in-Some.is) (rw c.as_slice.ensures at c.first_slot.ensures.some)

pub returns-in-Some-clause-none : goal.returns-in-Some-clause-none
returns-in-Some-clause-none c = current_none c.args.tables.now c.args.line c.in-Some.count c.first_slot.result (λ Q stands. c.wire.ensures Q stands ∙ c.in-Some.is) (rw c.as_slice.ensures at c.first_slot.ensures.none)

pub returns-in-None-clause-none : goal.returns-in-None-clause-none
returns-in-None-clause-none c = λ Q stands. no_line c.args.tables.now c.args.line Q (c.wire.ensures Q stands ∙ c.in-None.is)
