use Rattle.std.proofs.Common.{◌≤◌}
use Rattle.layer_bench.proofs.nets.random_events.Given as goal

abbrev pub invariant-loop-event : goal.invariant-loop-event
invariant-loop-event l = l.given ≤ l._event
