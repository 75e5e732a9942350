use Rattle.job_select.specs.Kinds.{output_chain}
use Rattle.job_select.proofs.IndexLemmas.{chains_moved, chains_same, stands_there}
use Rattle.job_select.proofs.index.Index.output_moved.Goals as goal

pub move_output-requires : goal.move_output-requires
move_output-requires c = stands_there output_chain c.args.self.now.outputs c.args.self.now.output_chains c.args.slot c.args.old.now c.args.self.now.printed c.requires

pub invariant_of-self : goal.invariant_of-self
invariant_of-self c = record {
  numbered = c.args.self.now.numbered;
  chained = c.args.self.now.chained;
  printed = chains_moved output_chain c.args.self.now.outputs c.args.self.now.output_chains c.move_output.new.chains c.args.slot c.args.old.now c.args.new.now c.args.self.now.printed c.requires c.in-Ok.ensures.ok;
  jobs_ended = c.args.self.now.jobs_ended;
  outputs_ended = c.end_with-self.ensures c.args.self.now.outputs c.args.self.now.outputs_ended;
}

pub invariant_of-self-in-Err : goal.invariant_of-self-in-Err
invariant_of-self-in-Err c = record {
  numbered = c.args.self.now.numbered;
  chained = c.args.self.now.chained;
  printed = chains_same output_chain c.args.self.now.outputs c.args.self.now.output_chains c.move_output.new.chains c.args.self.now.printed c.in-Err.ensures.err;
  jobs_ended = c.args.self.now.jobs_ended;
  outputs_ended = c.args.self.now.outputs_ended;
}
