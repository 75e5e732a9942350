use Rattle.std.proofs.Common.{arith}
use Rattle.member_core.proofs.Counted.{step_below}
use Rattle.member_core.proofs.steps.happen.Goals as goal

pub tell-requires : goal.tell-requires
tell-requires c = step_below 4294967295 c.args.world.now.members c.in-Tell.m (omega arith) c.requires.steps

pub stop-requires : goal.stop-requires
stop-requires c = step_below 4294967295 c.args.world.now.members c.in-Stop.m (omega arith) c.requires.steps
