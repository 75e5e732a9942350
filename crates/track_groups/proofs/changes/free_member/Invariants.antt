use Rattle.std.proofs.Common.{◌≡◌, ◌++◌, take, drop}
use Rattle.mas_types.specs.Owners.{freed, is_members}
use Rattle.track_groups.proofs.changes.free_member.Given as goal

-- the owners so far are changed
abbrev pub invariant-loop-owner : goal.invariant-loop-owner
invariant-loop-owner l = take l.owner-index l.owners ++ freed (is_members l.by) (drop l.owner-index l.owners) ≡ freed (is_members l.by) l.fn.owners
