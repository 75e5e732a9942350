use Rattle.queue_effect.proofs.Changing.{selected_some, selected_none}
use Rattle.queue_effect.proofs.wire.find_for_line.Goals as goal

pub returns-clause-some : goal.returns-clause-some
returns-clause-some c = selected_some c.args.jobs.now c.args.counts.now c.args.routes.now c.args.line c.best_slot.result c.best_slot.ensures.some

pub returns-clause-none : goal.returns-clause-none
returns-clause-none c = selected_none c.args.jobs.now c.args.counts.now c.args.routes.now c.args.line c.best_slot.result c.best_slot.ensures.none
