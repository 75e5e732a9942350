use Rattle.lay_bytes.proofs.RunLemmas.{zeros_compared}
use Rattle.lay_bytes.proofs.runs.is_zero_run.Goals as goal

pub returns : goal.returns
returns c = zeros_compared c.args.at c.args.bytes.now c.requires
