use Rattle.std.proofs.Common.{◌≡◌, ◌≤◌, false, drop}
use Rattle.card_reader.specs.Operands.{is_balanced_in}
use Rattle.card_reader.proofs.operands.is_balanced.Given as goal

-- the bytes that are left decide whether the field is balanced
abbrev pub invariant-loop-b : goal.invariant-loop-b
invariant-loop-b l = record {
  shallow : l.depth ≤ l.b-index;
  rest : is_balanced_in l.quoted l.depth (drop l.b-index l.field) ≡ is_balanced_in false 0 l.field;
}
