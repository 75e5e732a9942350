use Rattle.std.proofs.Common.{◌≡◌, ◌≤◌, ◌<◌, ◌+◌, ◌-◌, ◌++◌, take, drop, true, false}
use Rattle.std.specs.Prelude.{min}
use Rattle.mas_types.specs.Owners.{taken, free_count}
use Rattle.track_groups.proofs.changes.take.Given as goal

-- the groups so far are taken, and of those left so many are wanted; whether a Free one was found so far
abbrev pub invariant-loop-owner : goal.invariant-loop-owner
invariant-loop-owner l = record {
  within : l.count ≤ l.want;
  rest : take l.owner-index l.owners ++ taken l.by (l.want - l.count) (drop l.owner-index l.owners) ≡ taken l.by l.want l.fn.owners;
  taken_so_far : l.count + min (l.want - l.count) (free_count (drop l.owner-index l.owners)) ≡ min l.want (free_count l.fn.owners);
  some : l.found ≡ true → 0 < free_count l.fn.owners;
  none : l.found ≡ false → free_count (drop l.owner-index l.owners) ≡ free_count l.fn.owners;
  same : l.found ≡ false → l.owners ≡ l.fn.owners;
}
