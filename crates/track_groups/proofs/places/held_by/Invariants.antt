use Rattle.std.proofs.Common.{◌≡◌, ◌++◌, drop}
use Rattle.mas_types.specs.Owners.{is_members}
use Rattle.track_groups.specs.Groups.{groups_where, held_by}
use Rattle.track_groups.proofs.places.held_by.Given as goal

-- the member's groups are those found so far and those among the owners that are left
abbrev pub invariant-loop-at : goal.invariant-loop-at
invariant-loop-at l = l.groups ++ groups_where (is_members l.by) l.at (drop l.at l.owners) ≡ held_by l.by l.owners
