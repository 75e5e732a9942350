use Rattle.std.proofs.Common.{take}
use Rattle.mas_check.specs.Tallies.{AreTallies, HaveFew}
use Rattle.mas_check.proofs.tallies.Tallies.of.Given as goal

abbrev pub invariant-loop-group : goal.invariant-loop-group
invariant-loop-group l = record {
  are : AreTallies l.tallies (take l.group-index l.groups);
  few : HaveFew l.group-index l.tallies;
}
