use Rattle.std.proofs.Common.{◌≡◌, ◌+◌, ◌-◌, ◌≤◌, false, drop, length}
use Rattle.card_reader.specs.Operands.{operand_in}
use Rattle.card_reader.proofs.operands.operand_length.Given as goal

-- the operand's length is the bytes passed and the length of the operand in what is left
abbrev pub invariant-loop-n : goal.invariant-loop-n
invariant-loop-n l = record {
  within : l.n ≤ length l.text;
  shallow : l.depth ≤ l.n;
  rest : l.n + length (operand_in l.quoted l.depth (drop l.n l.text)) ≡ length (operand_in false 0 l.text);
}

abbrev pub decreases-loop-n : goal.decreases-loop-n
decreases-loop-n l = length l.text - l.n
