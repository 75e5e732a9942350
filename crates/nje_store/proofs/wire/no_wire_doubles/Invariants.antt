use Rattle.std.proofs.Common.{◌≡◌, take}
use Rattle.nje_store.specs.Wire.{quiet, run}
use Rattle.nje_store.proofs.wire.no_wire_doubles.Given as goal

abbrev pub invariant-loop-at : goal.invariant-loop-at
invariant-loop-at l = l.world ≡ run quiet (take l.at l.events)
