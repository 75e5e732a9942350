use Rattle.std.proofs.Common.{false}
use Rattle.model_player.proofs.script_of.Goals as goal

pub returns : goal.returns
returns c = c.law_of_limits.ensures (record { cold = c.args.cold; race = false; only = false }) c.args.bytes.now c.in-Ok.script c.in-Ok.ensures.said
