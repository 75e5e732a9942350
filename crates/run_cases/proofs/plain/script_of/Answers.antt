use Rattle.std.proofs.Common.{true, false}
use Rattle.run_cases.proofs.plain.script_of.Goals as goal

pub returns : goal.returns
returns c = c.law_of_limits.ensures (record { cold = true; race = false; only = false }) c.args.bytes.now c.in-Ok.script c.in-Ok.ensures.said
