use Rattle.std.proofs.Common.{◌≡◌, length}
use Rattle.nje_net.specs.Paths.{from_first}
use Rattle.nje_net.proofs.paths.loop_of.Given as goal

-- what was taken away stands before the first passing
abbrev pub invariant-loop-nodes : goal.invariant-loop-nodes
invariant-loop-nodes l = from_first l.at l.nodes ≡ from_first l.at l.fn.passed

abbrev pub decreases-loop-nodes : goal.decreases-loop-nodes
decreases-loop-nodes l = length l.nodes
