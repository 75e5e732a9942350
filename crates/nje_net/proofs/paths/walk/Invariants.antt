use Rattle.std.proofs.Common.{◌≡◌, ℕ, ◌+◌, ◌-◌, true, length}
use Rattle.std.specs.List.{AllByRecursion}
use Rattle.mas_types.specs.Fit.{AreDistinct}
use Rattle.nje_net.specs.Nets.{is_node}
use Rattle.nje_net.specs.Paths.{IsWay, same_node}
use Rattle.nje_net.proofs.paths.walk.Given as goal

-- the way so far
abbrev pub invariant-walk : goal.invariant-walk
invariant-walk l = record {
  way : IsWay l.net l.to l.fn.from l.passed l.at;
  different : AreDistinct same_node l.passed;
  nodes : AllByRecursion (λ (m : ℕ). is_node l.net m ≡ true) l.passed;
  there : is_node l.net l.at ≡ true;
}

abbrev pub decreases-walk : goal.decreases-walk
decreases-walk l = (length l.net.nodes + 1) - length l.passed
