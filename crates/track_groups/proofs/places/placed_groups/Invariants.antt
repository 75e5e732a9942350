use Rattle.std.proofs.Common.{◌≡◌, ◌++◌, drop}
use Rattle.track_groups.specs.Places.{placed_from}
use Rattle.track_groups.proofs.places.placed_groups.Given as goal

-- the placed groups are those found so far and those among the owners that are left
abbrev pub invariant-loop-at : goal.invariant-loop-at
invariant-loop-at l = l.groups.items ++ placed_from l.thing l.at (drop l.at l.owners) ≡ placed_from l.thing 0 l.owners
