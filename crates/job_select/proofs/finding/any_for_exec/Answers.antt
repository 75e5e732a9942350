use Rattle.std.proofs.Common.{◌&&◌, refl, ◌∙◌}
use Rattle.std.specs.Prelude.{not}
use Rattle.mas_types.specs.Ids.{same_class, is_somebody}
use Rattle.mas_types.specs.Queue.{in_execute}
use Rattle.lay_bytes.specs.declared.records.JobRec.{JobRec}
use Rattle.job_queue.specs.Jobs.{order_of, unordered, rec_of}
use Rattle.job_select.specs.Chains.{slots_of}
use Rattle.job_select.specs.Kinds.{job_chain}
use Rattle.job_select.proofs.KindLemmas.{in_chain, for_exec_chain}
use Rattle.job_select.proofs.ToldLemmas.{any_keyed}
use Rattle.job_select.proofs.finding.any_for_exec.Goals as goal

pub any_by_class-requires : goal.any_by_class-requires
any_by_class-requires c = λ k j y there picked.
    in_chain job_chain c.args.jobs.now c.args.chains.now c.requires (λ (r : JobRec). (in_execute r.phase && (not r.fields.held && not (is_somebody r.busy))) && same_class r.fields.class k) k.0 (λ r. for_exec_chain r k) (slots_of c.args.chains.now k.0) refl j y there picked

pub returns : goal.returns
returns c = λ js are.
    c.any_by_class.ensures
    ∙ any_keyed order_of unordered rec_of c.args.jobs.now js are (λ (r : JobRec). r.fields.prio.0) (λ k (r : JobRec). same_class r.fields.class k) c.args.classes.now (λ (r : JobRec). in_execute r.phase && (not r.fields.held && not (is_somebody r.busy)))
