use Rattle.nje_net.proofs.Bounds.{step_below}
use Rattle.nje_net.proofs.events.net_step.Goals as goal

pub returns-clause-below : goal.returns-clause-below
returns-clause-below c = λ bound below. step_below c.args.net.now c.args.world.now c.happen.new.world c.args.event.now c.happen.result c.happen.ensures.ok c.happen.ensures.err bound below
