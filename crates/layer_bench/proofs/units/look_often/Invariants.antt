use Rattle.std.proofs.Common.{◌≤◌}
use Rattle.layer_bench.proofs.units.look_often.Given as goal

-- at most each time there was none
abbrev pub invariant-loop-time : goal.invariant-loop-time
invariant-loop-time l = l.idle ≤ l._time
