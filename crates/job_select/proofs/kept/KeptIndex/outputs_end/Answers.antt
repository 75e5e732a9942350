use Rattle.job_select.proofs.EndLemmas.{all_ended}
use Rattle.job_select.proofs.kept.KeptIndex.outputs_end.Goals as goal

pub returns-then-self : goal.returns-then-self
returns-then-self c = rw ((c.requires c.if-self.true).outputs) at c.args.self.now.index.outputs_ended

pub returns : goal.returns
returns c = rw c.len.ensures (all_ended c.args.tables.now.outputs)
