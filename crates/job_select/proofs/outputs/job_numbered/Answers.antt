use Rattle.mas_types.specs.Ids.{same_number}
use Rattle.lay_bytes.specs.declared.records.JobRec.{JobRec}
use Rattle.job_select.specs.Kinds.{number_chain}
use Rattle.job_select.proofs.KindLemmas.{in_chain, numbered_chain}
use Rattle.job_select.proofs.outputs.job_numbered.Goals as goal

pub first_in-requires-clause-all : goal.first_in-requires-clause-all
first_in-requires-clause-all c =
    in_chain number_chain c.args.jobs.now c.args.numbers.now c.requires (λ (r : JobRec). same_number r.number c.args.job) c.args.job.0 (λ r. numbered_chain r c.args.job) c.slots_in.result.now c.slots_in.ensures
