use Rattle.job_select.specs.Kinds.{job_chain, number_chain}
use Rattle.job_select.proofs.IndexLemmas.{chains_moved, chains_same, stands_there}
use Rattle.job_select.proofs.index.Index.job_moved.Goals as goal

pub move_job-requires-clause-number : goal.move_job-requires-clause-number
move_job-requires-clause-number c = stands_there number_chain c.args.self.now.jobs c.args.self.now.numbers c.args.slot c.args.old.now c.args.self.now.numbered c.requires

pub move_job-requires-clause-chain : goal.move_job-requires-clause-chain
move_job-requires-clause-chain c = stands_there job_chain c.args.self.now.jobs c.args.self.now.job_chains c.args.slot c.args.old.now c.args.self.now.chained c.requires

pub invariant_of-self : goal.invariant_of-self
invariant_of-self c = record {
  numbered = chains_moved number_chain c.args.self.now.jobs c.args.self.now.numbers c.move_job.new.numbers c.args.slot c.args.old.now c.args.new.now c.args.self.now.numbered c.requires c.in-Ok.ensures.numbers;
  chained = chains_moved job_chain c.args.self.now.jobs c.args.self.now.job_chains c.move_job.new.chains c.args.slot c.args.old.now c.args.new.now c.args.self.now.chained c.requires c.in-Ok.ensures.chains;
  printed = c.args.self.now.printed;
  jobs_ended = c.end_with-self.ensures c.args.self.now.jobs c.args.self.now.jobs_ended;
  outputs_ended = c.args.self.now.outputs_ended;
}

pub invariant_of-self-in-Err : goal.invariant_of-self-in-Err
invariant_of-self-in-Err c = record {
  numbered = chains_same number_chain c.args.self.now.jobs c.args.self.now.numbers c.move_job.new.numbers c.args.self.now.numbered c.in-Err.ensures.no_number;
  chained = chains_same job_chain c.args.self.now.jobs c.args.self.now.job_chains c.move_job.new.chains c.args.self.now.chained c.in-Err.ensures.no_chain;
  printed = c.args.self.now.printed;
  jobs_ended = c.args.self.now.jobs_ended;
  outputs_ended = c.args.self.now.outputs_ended;
}
