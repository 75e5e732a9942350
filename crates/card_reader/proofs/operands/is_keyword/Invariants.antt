use Rattle.std.proofs.Common.{◌≡◌, drop}
use Rattle.card_reader.specs.Operands.{is_keyword}
use Rattle.card_reader.proofs.operands.is_keyword.Given as goal

-- the bytes that are left decide whether the operand is KEY=value
abbrev pub invariant-loop-b : goal.invariant-loop-b
invariant-loop-b l = is_keyword (drop l.b-index l.operand) ≡ is_keyword l.operand
