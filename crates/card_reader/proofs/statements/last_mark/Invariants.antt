use Rattle.std.proofs.Common.{◌≡◌, None}
use Rattle.card_reader.specs.Operands.{operands_left, operands_of}
use Rattle.card_reader.specs.Statements.{marks_after}
use Rattle.card_reader.proofs.Parts.{length_left}
use Rattle.card_reader.proofs.statements.last_mark.Given as goal

-- the operands that are left decide the last mark, after the mark found so far
abbrev pub invariant-loop-rest : goal.invariant-loop-rest
invariant-loop-rest l = marks_after l.mark (operands_left l.rest) ≡ marks_after None (operands_of l.operands)

abbrev pub decreases-loop-rest : goal.decreases-loop-rest
decreases-loop-rest l = length_left l.rest
