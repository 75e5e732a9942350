use Rattle.std.proofs.Common.{◌+◌, ◌-◌, ◌*◌}
use Rattle.gate_example.proofs.crowd.+spread.Given as goal

abbrev pub decreases-spread : goal.decreases-spread
decreases-spread g l = 2 * (l.members + 1 - l.by)

abbrev pub decreases-others : goal.decreases-others
decreases-others g l = 2 * (l.members + 1 - l.above) + 1
