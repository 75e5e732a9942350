use Rattle.job_select.proofs.IndexLemmas.{Follows}
use Rattle.job_select.proofs.index.Index.follow_outputs.Given as goal

-- the first slots are as they are to be
abbrev pub invariant-loop-at : goal.invariant-loop-at
invariant-loop-at l = Follows l.self.outputs l.self.jobs l.outputs l.fn.self.jobs l.at
