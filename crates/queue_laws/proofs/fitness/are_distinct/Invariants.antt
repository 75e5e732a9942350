use Rattle.std.proofs.Common.{◌↔◌, drop}
use Rattle.mas_types.specs.Ids.{same_class}
use Rattle.mas_types.specs.Fit.{AreDistinct}
use Rattle.queue_laws.proofs.fitness.are_distinct.Given as goal

-- what is left differs exactly where all do
abbrev pub invariant-loop-i : goal.invariant-loop-i
invariant-loop-i l = AreDistinct same_class (drop l.i l.classes) ↔ AreDistinct same_class l.classes
