use Rattle.std.proofs.Common.{◌≡◌, [], replicate}
use Rattle.nje_net.proofs.worlds.no_jobs.Given as goal

abbrev pub invariant-loop-node : goal.invariant-loop-node
invariant-loop-node l = l.held ≡ replicate l._node []
