use Rattle.std.proofs.Common.{rules}
use Rattle.lay_bytes.proofs.RunLemmas.{names_compared}
use Rattle.lay_bytes.proofs.runs.is_same_name.Goals as goal

pub returns : goal.returns
returns c = names_compared c.args.a.now.0 c.args.b.now.0 (search rules) (search rules)
