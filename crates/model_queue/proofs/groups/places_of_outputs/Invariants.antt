use Rattle.std.proofs.Common.{◌≡◌, ◌+◌, ◌++◌, drop}
use Rattle.mas_types.specs.Commands.Life.{places_of_outputs}
use Rattle.model_queue.proofs.groups.places_of_outputs.Given as goal

-- the places of the outputs so far, and of those that are left
abbrev pub invariant-loop-spec : goal.invariant-loop-spec
invariant-loop-spec l = record {
  index : l.index ≡ l.spec-index + 1;
  rest : l.places ++ places_of_outputs l.job l.index (drop l.spec-index l.spec-items) ≡ places_of_outputs l.job 1 l.spec-items;
}
