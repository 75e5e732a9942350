use Rattle.nje_net.specs.Events.{is_on}
use Rattle.nje_net.proofs.Firsts.{placed, not_placed}
use Rattle.nje_net.proofs.holding.place_on.Goals as goal

pub returns-clause-some : goal.returns-clause-some
returns-clause-some c = placed (is_on c.args.line) c.args.jobs.now c.position_on.result c.position_on.ensures

pub returns-clause-none : goal.returns-clause-none
returns-clause-none c = not_placed (is_on c.args.line) c.args.jobs.now c.position_on.result c.position_on.ensures
