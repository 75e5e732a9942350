use Rattle.std.proofs.Common.{◌≡◌, false}
use Rattle.card_reader.specs.Jobs.{operands_taken, default_operands}
use Rattle.card_reader.specs.Operands.{operands_left, parts_in}
use Rattle.card_reader.proofs.Parts.{length_left}
use Rattle.card_reader.proofs.jobs.take_operands.Given as goal

-- the operands that are left decide the job's operands, after those taken so far
abbrev pub invariant-loop-rest : goal.invariant-loop-rest
invariant-loop-rest l = operands_taken l.so_far (operands_left l.rest) ≡ operands_taken default_operands (parts_in false 0 l.field)

abbrev pub decreases-loop-rest : goal.decreases-loop-rest
decreases-loop-rest l = length_left l.rest
