use Rattle.std.proofs.Common.{◌≡◌, take, map}
use Rattle.track_groups.proofs.places.groups_of.Given as goal

-- the groups so far are added
abbrev pub invariant-loop-group : goal.invariant-loop-group
invariant-loop-group l = l.groups ≡ map (λ p. p.group) (take l.group-index l.group-items)
