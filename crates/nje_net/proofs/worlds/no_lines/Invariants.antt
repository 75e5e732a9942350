use Rattle.std.proofs.Common.{◌≡◌, replicate}
use Rattle.nje_net.specs.Worlds.{idle_lines}
use Rattle.nje_net.proofs.worlds.no_lines.Given as goal

abbrev pub invariant-loop-node : goal.invariant-loop-node
invariant-loop-node l = l.lines ≡ replicate l._node idle_lines
