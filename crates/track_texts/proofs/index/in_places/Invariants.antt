use Rattle.std.proofs.Common.{◌≡◌, take, map}
use Rattle.track_texts.proofs.index.in_places.Given as goal

-- the groups so far are added
abbrev pub invariant-loop-group : goal.invariant-loop-group
invariant-loop-group l = l.sorted ≡ map (λ g. g.group) (take l.group-index l.group-items)
