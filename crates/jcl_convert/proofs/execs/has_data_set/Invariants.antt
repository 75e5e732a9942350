use Rattle.std.proofs.Common.{◌≡◌}
use Rattle.std.specs.List.{list_any}
use Rattle.card_reader.specs.Operands.{operands_left, operands_of}
use Rattle.card_reader.proofs.Parts.{length_left}
use Rattle.jcl_convert.specs.Execs.{names_data_set}
use Rattle.jcl_convert.proofs.execs.has_data_set.Given as goal

-- the operands that are left decide whether one names a data set
abbrev pub invariant-loop-rest : goal.invariant-loop-rest
invariant-loop-rest l = list_any names_data_set (operands_left l.rest) ≡ list_any names_data_set (operands_of l.field)

abbrev pub decreases-loop-rest : goal.decreases-loop-rest
decreases-loop-rest l = length_left l.rest
