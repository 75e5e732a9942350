use Rattle.std.proofs.Common.{◌≡◌}
use Rattle.card_reader.specs.Operands.{operands_left, operands_of}
use Rattle.card_reader.proofs.Parts.{length_left}
use Rattle.jcl_convert.specs.Dds.{dd_operands_taken, no_sysout}
use Rattle.jcl_convert.proofs.dds.read_sysout.Given as goal

-- the operands that are left decide the output of the DD statement, after those taken so far
abbrev pub invariant-loop-rest : goal.invariant-loop-rest
invariant-loop-rest l = dd_operands_taken l.fields l.so_far (operands_left l.rest) ≡ dd_operands_taken l.fields (no_sysout l.fields) (operands_of l.field)

abbrev pub decreases-loop-rest : goal.decreases-loop-rest
decreases-loop-rest l = length_left l.rest
