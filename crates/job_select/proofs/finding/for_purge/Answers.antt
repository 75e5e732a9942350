use Rattle.mas_types.specs.Queue.{in_purge}
use Rattle.queue_slots.proofs.Founds.{found_here, first_told, none_told}
use Rattle.lay_bytes.specs.declared.records.JobRec.{JobRec}
use Rattle.job_queue.specs.Jobs.{order_of, unordered, rec_of}
use Rattle.job_select.specs.Kinds.{job_chain, purge_chain}
use Rattle.job_select.proofs.KindLemmas.{in_chain, for_purge_chain}
use Rattle.job_select.proofs.finding.for_purge.Goals as goal

pub first_in-requires-clause-all : goal.first_in-requires-clause-all
first_in-requires-clause-all c = in_chain job_chain c.args.jobs.now c.args.chains.now c.requires (λ (r : JobRec). in_purge r.phase) (purge_chain) (λ r. for_purge_chain r) c.slots_in.result.now c.slots_in.ensures

pub returns-clause-here : goal.returns-clause-here
returns-clause-here c = found_here order_of (λ (r : JobRec). in_purge r.phase) c.args.jobs.now c.first_in.result c.first_in.ensures.some

pub returns-clause-some : goal.returns-clause-some
returns-clause-some c = first_told order_of unordered rec_of c.args.jobs.now c.first_in.result (λ (r : JobRec). in_purge r.phase) c.first_in.ensures.some

pub returns-clause-none : goal.returns-clause-none
returns-clause-none c = none_told order_of unordered rec_of c.args.jobs.now c.first_in.result (λ (r : JobRec). in_purge r.phase) c.first_in.ensures.none
