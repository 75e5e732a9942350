use Rattle.nje_net.specs.Events.{waits_for}
use Rattle.nje_net.proofs.Firsts.{placed, not_placed}
use Rattle.nje_net.proofs.holding.place_waiting.Goals as goal

pub returns-clause-some : goal.returns-clause-some
returns-clause-some c = placed (waits_for c.args.routes.now c.args.line) c.args.jobs.now c.position_waiting.result c.position_waiting.ensures

pub returns-clause-none : goal.returns-clause-none
returns-clause-none c = not_placed (waits_for c.args.routes.now c.args.line) c.args.jobs.now c.position_waiting.result c.position_waiting.ensures
