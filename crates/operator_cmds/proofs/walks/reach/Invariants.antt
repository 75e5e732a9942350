use Rattle.std.proofs.Common.{◌≡◌, ◌+◌, ◌-◌, ◌≤◌, [], length, take, drop}
use Rattle.operator_cmds.specs.Walks.{reach}
use Rattle.operator_cmds.proofs.walks.reach.Given as goal

-- what is left decides
abbrev pub invariant-loop-n : goal.invariant-loop-n
invariant-loop-n l = record {
  within : l.n ≤ length l.text;
  left : l.n + reach l.place (take l.n l.text) (drop l.n l.text) ≡ reach l.place [] l.text;
}

abbrev pub decreases-loop-n : goal.decreases-loop-n
decreases-loop-n l = length l.text - l.n
