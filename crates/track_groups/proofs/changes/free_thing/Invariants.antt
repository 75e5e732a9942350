use Rattle.std.proofs.Common.{◌≡◌, ◌++◌, take, drop}
use Rattle.mas_types.specs.Owners.{freed}
use Rattle.track_groups.specs.Groups.{is_things}
use Rattle.track_groups.proofs.changes.free_thing.Given as goal

-- the owners so far are changed
abbrev pub invariant-loop-owner : goal.invariant-loop-owner
invariant-loop-owner l = take l.owner-index l.owners ++ freed (is_things l.thing) (drop l.owner-index l.owners) ≡ freed (is_things l.thing) l.fn.owners
