use Rattle.member_core.proofs.Counted.{holds_after, steps_after}
use Rattle.member_core.proofs.steps.world_step.Goals as goal

pub returns-clause-holds : goal.returns-clause-holds
returns-clause-holds c = holds_after c.args.world.now c.happen.new.world c.args.event.now c.happen.result c.requires.holds c.requires.fit c.happen.ensures.moves c.happen.ensures.stays

pub returns-clause-steps : goal.returns-clause-steps
returns-clause-steps c = λ bound below. steps_after c.args.world.now c.happen.new.world c.args.event.now c.happen.result bound below c.happen.ensures.moves c.happen.ensures.stays
