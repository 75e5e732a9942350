use Rattle.std.proofs.Common.{arith}
use Rattle.nje_net.proofs.Bounds.{line_below}
use Rattle.nje_net.proofs.events.frame_comes.Goals as goal

pub receive-requires : goal.receive-requires
receive-requires c = (line_below 4294967295 c.args.world.now c.end_at-end.result.node c.end_at-end.result.line (omega arith) c.requires).1
