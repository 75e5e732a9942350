use Rattle.std.proofs.Common.{◌≡◌, drop}
use Rattle.nje_net.specs.Numbered.{are_different}
use Rattle.nje_net.proofs.names.are_different.Given as goal

-- what is left to see
abbrev pub invariant-loop-at : goal.invariant-loop-at
invariant-loop-at g l = are_different g.T.Named.name (drop l.at l.items) ≡ are_different g.T.Named.name l.items
