use Rattle.std.proofs.Common.{◌≡◌, ◌∷◌}
use Rattle.member_core.specs.Worlds.{absent}
use Rattle.member_core.specs.Events.{new_members}
use Rattle.member_core.proofs.starts.new_members.Given as goal

-- member 0, and the members so far
abbrev pub invariant-loop-i : goal.invariant-loop-i
invariant-loop-i l = l.members ≡ absent ∷ new_members l._i
