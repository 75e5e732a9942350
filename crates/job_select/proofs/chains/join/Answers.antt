use Rattle.job_select.proofs.MoveLemmas.{joins_same}
use Rattle.job_select.proofs.chains.join.Goals as goal

pub returns-then-is_same-clause-ok : goal.returns-then-is_same-clause-ok
returns-then-is_same-clause-ok c = joins_same c.args.slot c.args.from c.args.to c.args.chains.now c.requires (c.is_same.ensures.same c.if-is_same.true)
