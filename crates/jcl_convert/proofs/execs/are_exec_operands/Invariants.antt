use Rattle.std.proofs.Common.{◌≡◌}
use Rattle.std.specs.List.{list_all}
use Rattle.card_reader.specs.Operands.{operands_left}
use Rattle.card_reader.proofs.Parts.{length_left}
use Rattle.jcl_convert.specs.Execs.{is_exec_operand}
use Rattle.jcl_convert.proofs.execs.are_exec_operands.Given as goal

-- the operands that are left decide whether all may stand on an EXEC statement
abbrev pub invariant-loop-rest : goal.invariant-loop-rest
invariant-loop-rest l = list_all is_exec_operand (operands_left l.rest) ≡ list_all is_exec_operand (operands_left l.fn.rest)

abbrev pub decreases-loop-rest : goal.decreases-loop-rest
decreases-loop-rest l = length_left l.rest
