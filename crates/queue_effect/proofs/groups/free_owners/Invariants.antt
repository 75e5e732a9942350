use Rattle.std.proofs.Common.{◌≡◌, ◌++◌, List, length, take, drop}
use Rattle.std.specs.Prelude.{filter}
use Rattle.mas_types.specs.declared.jobs.Output.{Output}
use Rattle.mas_types.specs.Owners.{freed, is_of_any}
use Rattle.mas_types.specs.Queue.{is_of}
use Rattle.output_queue.specs.Outputs.{AreOutputs}
use Rattle.queue_effect.proofs.groups.free_owners.Given as goal

-- the owners so far are freed where an output of the job has them
abbrev pub invariant-loop-owner : goal.invariant-loop-owner
invariant-loop-owner l = record {
  rest : (os : List Output) → AreOutputs l.outputs os → take l.owner-index l.owners ++ freed (is_of_any (filter (is_of l.job) os)) (drop l.owner-index l.owners) ≡ freed (is_of_any (filter (is_of l.job) os)) l.fn.owners;
  size : length l.owners ≡ length l.fn.owners;
}
