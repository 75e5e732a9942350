use Rattle.std.proofs.Common.{◌≡◌, ◌++◌, take, drop, map}
use Rattle.member_core.specs.Events.{has_risen}
use Rattle.member_core.proofs.starts.rise_all.Given as goal

-- the members so far have risen
abbrev pub invariant-loop-member : goal.invariant-loop-member
invariant-loop-member l = take l.member-index l.members ++ map has_risen (drop l.member-index l.members) ≡ map has_risen l.fn.members
