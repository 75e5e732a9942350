use Rattle.std.proofs.Common.{◌≡◌, ◌≤◌, ◌*◌, take}
use Rattle.mas_types.specs.Commands.Life.{groups_of_outputs}
use Rattle.queue_effect.proofs.ending.groups_of.Given as goal

-- the groups of the outputs so far
abbrev pub invariant-loop-output : goal.invariant-loop-output
invariant-loop-output l = record {
  sum : l.groups ≡ groups_of_outputs (take l.output-index l.outputs);
  few : l.groups ≤ 10000 * l.output-index;
}
