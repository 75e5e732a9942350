use Rattle.std.proofs.Common.{◌≡◌}
use Rattle.std.specs.List.{list_all}
use Rattle.card_reader.specs.Operands.{operands_left}
use Rattle.card_reader.proofs.Parts.{length_left}
use Rattle.jcl_convert.specs.Dds.{is_passed_over}
use Rattle.jcl_convert.proofs.dds.are_passed_over.Given as goal

-- the operands that are left decide whether all are accepted with any value
abbrev pub invariant-loop-rest : goal.invariant-loop-rest
invariant-loop-rest l = list_all is_passed_over (operands_left l.rest) ≡ list_all is_passed_over (operands_left l.fn.rest)

abbrev pub decreases-loop-rest : goal.decreases-loop-rest
decreases-loop-rest l = length_left l.rest
