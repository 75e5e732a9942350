use Rattle.std.proofs.Common.{◌≡◌, ◌+◌, take}
use Rattle.nje_net.specs.Worlds.{start}
use Rattle.nje_net.specs.Events.{runs}
use Rattle.nje_net.specs.Lossless.{IsBelow}
use Rattle.nje_net.proofs.runs.no_net_loses.Given as goal

-- the world after the events so far
abbrev pub invariant-loop-event : goal.invariant-loop-event
invariant-loop-event l = record {
  world : l.world ≡ runs l.net (start l.net) (take l.event-index l.event-items);
  below : IsBelow (l.event-index + 1) l.world;
}
