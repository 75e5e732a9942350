use Rattle.std.proofs.Common.{◌≡◌, ◌≤◌, ◌+◌, ◌-◌, ◌++◌, take, drop}
use Rattle.mas_types.specs.Owners.{member_count, places}
use Rattle.track_groups.specs.Groups.{owner_at, first_places, given}
use Rattle.track_groups.proofs.changes.give_to.Given as goal

-- the groups so far are given, and the rest gets what is left; the member has enough for that
abbrev pub invariant-loop-owner : goal.invariant-loop-owner
invariant-loop-owner l = record {
  within : l.place ≤ l.count;
  rest : take l.owner-index l.owners ++ given l.by (places (owner_at l.thing) l.place (l.count - l.place)) (drop l.owner-index l.owners) ≡ given l.by (first_places l.thing l.count) l.fn.owners;
  room : l.count ≤ l.place + member_count l.by (drop l.owner-index l.owners);
  left : member_count l.by (take l.owner-index l.owners) + l.place + member_count l.by (drop l.owner-index l.owners) ≡ member_count l.by l.fn.owners;
}
