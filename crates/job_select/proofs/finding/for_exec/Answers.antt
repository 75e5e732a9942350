use Rattle.std.proofs.Common.{◌&&◌, refl}
use Rattle.std.specs.Prelude.{not}
use Rattle.mas_types.specs.Lists.{is_greatest_of, has_first_key_of}
use Rattle.mas_types.specs.Ids.{same_class, is_somebody}
use Rattle.mas_types.specs.Queue.{in_execute}
use Rattle.queue_slots.specs.Listed.{listed}
use Rattle.queue_slots.proofs.Founds.{found_here, keyed_told, no_keyed_told}
use Rattle.lay_bytes.specs.declared.records.JobRec.{JobRec}
use Rattle.job_queue.specs.Jobs.{order_of, unordered, rec_of}
use Rattle.job_select.specs.Chains.{slots_of}
use Rattle.job_select.specs.Kinds.{job_chain}
use Rattle.job_select.proofs.KindLemmas.{in_chain, for_exec_chain}
use Rattle.job_select.proofs.finding.for_exec.Goals as goal

pub best_by_class-requires : goal.best_by_class-requires
best_by_class-requires c = λ k j y there picked.
    in_chain job_chain c.args.jobs.now c.args.chains.now c.requires (λ (r : JobRec). (in_execute r.phase && (not r.fields.held && not (is_somebody r.busy))) && same_class r.fields.class k) k.0 (λ r. for_exec_chain r k) (slots_of c.args.chains.now k.0) refl j y there picked

pub returns-clause-here : goal.returns-clause-here
returns-clause-here c = found_here order_of (is_greatest_of (λ (r : JobRec). r.fields.prio.0) (has_first_key_of (λ k (r : JobRec). same_class r.fields.class k) c.args.classes.now (λ (r : JobRec). in_execute r.phase && (not r.fields.held && not (is_somebody r.busy))) (listed order_of c.args.jobs.now)) (listed order_of c.args.jobs.now)) c.args.jobs.now c.best_by_class.result c.best_by_class.ensures.some

pub returns-clause-some : goal.returns-clause-some
returns-clause-some c = keyed_told order_of unordered rec_of c.args.jobs.now c.best_by_class.result (λ (r : JobRec). r.fields.prio.0) (λ (r : JobRec). in_execute r.phase && (not r.fields.held && not (is_somebody r.busy))) (λ k (r : JobRec). same_class r.fields.class k) c.args.classes.now c.best_by_class.ensures.some

pub returns-clause-none : goal.returns-clause-none
returns-clause-none c = no_keyed_told order_of unordered rec_of c.args.jobs.now c.best_by_class.result (λ (r : JobRec). r.fields.prio.0) (λ (r : JobRec). in_execute r.phase && (not r.fields.held && not (is_somebody r.busy))) (λ k (r : JobRec). same_class r.fields.class k) c.args.classes.now c.best_by_class.ensures.none
