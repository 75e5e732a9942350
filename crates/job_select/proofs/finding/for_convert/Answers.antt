use Rattle.std.proofs.Common.{◌&&◌}
use Rattle.std.specs.Prelude.{not}
use Rattle.mas_types.specs.Lists.{is_greatest_of}
use Rattle.mas_types.specs.Ids.{is_somebody}
use Rattle.mas_types.specs.Queue.{in_convert}
use Rattle.queue_slots.specs.Listed.{listed}
use Rattle.queue_slots.proofs.Founds.{found_here, best_told, no_best_told}
use Rattle.lay_bytes.specs.declared.records.JobRec.{JobRec}
use Rattle.job_queue.specs.Jobs.{order_of, unordered, rec_of}
use Rattle.job_select.specs.Kinds.{job_chain, convert_chain}
use Rattle.job_select.proofs.KindLemmas.{in_chain, for_convert_chain}
use Rattle.job_select.proofs.finding.for_convert.Goals as goal

pub best_in-requires : goal.best_in-requires
best_in-requires c = in_chain job_chain c.args.jobs.now c.args.chains.now c.requires (λ (r : JobRec). in_convert r.phase && (not r.fields.held && not (is_somebody r.busy))) (convert_chain) (λ r. for_convert_chain r) c.slots_in.result.now c.slots_in.ensures

pub returns-clause-here : goal.returns-clause-here
returns-clause-here c = found_here order_of (is_greatest_of (λ (r : JobRec). r.fields.prio.0) (λ (r : JobRec). in_convert r.phase && (not r.fields.held && not (is_somebody r.busy))) (listed order_of c.args.jobs.now)) c.args.jobs.now c.best_in.result c.best_in.ensures.some

pub returns-clause-some : goal.returns-clause-some
returns-clause-some c = best_told order_of unordered rec_of c.args.jobs.now c.best_in.result (λ (r : JobRec). r.fields.prio.0) (λ (r : JobRec). in_convert r.phase && (not r.fields.held && not (is_somebody r.busy))) c.best_in.ensures.some

pub returns-clause-none : goal.returns-clause-none
returns-clause-none c = no_best_told order_of unordered rec_of c.args.jobs.now c.best_in.result (λ (r : JobRec). r.fields.prio.0) (λ (r : JobRec). in_convert r.phase && (not r.fields.held && not (is_somebody r.busy))) c.best_in.ensures.none
