use Rattle.std.proofs.Common.{◌≡◌, take}
use Rattle.mas_types.specs.Run.{run}
use Rattle.mas_types.specs.Sound.{IsSound}
use Rattle.model_queue.proofs.runs.run.Given as goal

-- the queue after the entries so far
abbrev pub invariant-loop-entry : goal.invariant-loop-entry
invariant-loop-entry l = record {
  value : l.queue ≡ run l.base (take l.entry-index l.entry-items);
  sound : IsSound l.queue;
  config : l.queue.config ≡ l.base.config;
}
