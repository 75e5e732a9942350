use Rattle.std.proofs.Common.{◌≡◌, ◌+◌, ◌++◌, drop}
use Rattle.mas_types.specs.Commands.Life.{new_outputs}
use Rattle.model_queue.proofs.life.with_outputs.Given as goal

-- the outputs so far, and those that are left
abbrev pub invariant-loop-spec : goal.invariant-loop-spec
invariant-loop-spec l = record {
  index : l.index ≡ l.spec-index + 1;
  rest : l.all ++ new_outputs l.job l.index (drop l.spec-index l.spec-items) ≡ l.outputs ++ new_outputs l.job 1 l.spec-items;
}
