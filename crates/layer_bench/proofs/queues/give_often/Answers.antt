use Rattle.job_select.proofs.EndLemmas.{all_ended}
use Rattle.layer_bench.proofs.queues.give_often.Goals as goal

pub apply-requires-clause-ends : goal.apply-requires-clause-ends
apply-requires-clause-ends c = record {
  jobs = rw c.len.ensures (all_ended c.loop-time.tables.jobs);
  outputs = rw c.len-in-loop-time.ensures (all_ended c.loop-time.tables.outputs);
}
