use Rattle.std.proofs.Common.{◌+◌, ◌*◌, ◌≤◌}
use Rattle.queue_effect.specs.Standing.{AreFit}
use Rattle.layer_bench.proofs.queues.give_often.Given as goal

-- the tables stay fit, and their orders rise by little
abbrev pub invariant-loop-time : goal.invariant-loop-time
invariant-loop-time l = record {
  fit : AreFit l.tables;
  order : l.tables.order ≤ 10000 + 32 * l._time;
  few : l.without ≤ l._time;
}
