use Rattle.std.proofs.Common.{◌&&◌, ◌∙◌}
use Rattle.std.specs.Prelude.{not}
use Rattle.mas_types.specs.Ids.{is_somebody}
use Rattle.mas_types.specs.Queue.{in_convert}
use Rattle.lay_bytes.specs.declared.records.JobRec.{JobRec}
use Rattle.job_queue.specs.Jobs.{order_of, unordered, rec_of}
use Rattle.job_select.specs.Kinds.{job_chain, convert_chain}
use Rattle.job_select.proofs.KindLemmas.{in_chain, for_convert_chain}
use Rattle.job_select.proofs.ToldLemmas.{any_best}
use Rattle.job_select.proofs.finding.any_for_convert.Goals as goal

pub any_in-requires : goal.any_in-requires
any_in-requires c = in_chain job_chain c.args.jobs.now c.args.chains.now c.requires (λ (r : JobRec). in_convert r.phase && (not r.fields.held && not (is_somebody r.busy))) convert_chain (λ r. for_convert_chain r) c.slots_in.result.now c.slots_in.ensures

pub returns : goal.returns
returns c = λ js are.
    c.any_in.ensures.best
    ∙ any_best order_of unordered rec_of c.args.jobs.now js are (λ (r : JobRec). r.fields.prio.0) (λ (r : JobRec). in_convert r.phase && (not r.fields.held && not (is_somebody r.busy)))
