use Rattle.std.proofs.Common.{◌≡◌, ◌++◌, take, drop, map}
use Rattle.member_core.specs.Events.{has_fallen}
use Rattle.member_core.specs.Steps.{AreStepsBelow}
use Rattle.member_core.proofs.crashes.fall_all.Given as goal

-- the members so far have fallen
abbrev pub invariant-loop-member : goal.invariant-loop-member
invariant-loop-member l = record {
  changed : take l.member-index l.members ++ map has_fallen (drop l.member-index l.members) ≡ map has_fallen l.fn.members;
  steps : AreStepsBelow 4294967295 (drop l.member-index l.members);
}
