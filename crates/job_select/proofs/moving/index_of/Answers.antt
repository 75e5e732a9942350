use Rattle.job_select.specs.Kinds.{job_chain, number_chain, output_chain}
use Rattle.job_select.proofs.EndLemmas.{empty_ended}
use Rattle.job_select.proofs.IndexLemmas.{empty_chains}
use Rattle.job_select.proofs.moving.index_of.Goals as goal

pub invariant_of-result-clause-numbered : goal.invariant_of-result-clause-numbered
invariant_of-result-clause-numbered c = empty_chains number_chain c.args.jobs c.new-numbers.result c.new-numbers.ensures.empty c.requires.jobs

pub invariant_of-result-clause-chained : goal.invariant_of-result-clause-chained
invariant_of-result-clause-chained c = empty_chains job_chain c.args.jobs c.new-job_chains.result c.new-job_chains.ensures.empty c.requires.jobs

pub invariant_of-result-clause-printed : goal.invariant_of-result-clause-printed
invariant_of-result-clause-printed c = empty_chains output_chain c.args.outputs c.new-output_chains.result c.new-output_chains.ensures.empty c.requires.outputs

pub invariant_of-result-clause-jobs_ended : goal.invariant_of-result-clause-jobs_ended
invariant_of-result-clause-jobs_ended c = empty_ended c.args.jobs c.requires.jobs

pub invariant_of-result-clause-outputs_ended : goal.invariant_of-result-clause-outputs_ended
invariant_of-result-clause-outputs_ended c = empty_ended c.args.outputs c.requires.outputs
