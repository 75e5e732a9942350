use Rattle.std.proofs.Common.{◌≡◌, replicate}
use Rattle.nje_net.specs.Worlds.{no_line}
use Rattle.nje_net.proofs.worlds.idle_lines.Given as goal

abbrev pub invariant-loop-line : goal.invariant-loop-line
invariant-loop-line l = l.lines ≡ replicate l._line no_line
