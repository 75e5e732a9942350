use Rattle.std.proofs.Common.{◌≡◌, ◌+◌, ◌-◌, ◌≤◌, false, drop, length}
use Rattle.card_reader.specs.Cards.{field_in}
use Rattle.card_reader.proofs.cards.field_length.Given as goal

-- the field's length is the bytes passed and the length of the field in what is left
abbrev pub invariant-loop-n : goal.invariant-loop-n
invariant-loop-n l = record {
  within : l.n ≤ length l.text;
  rest : l.n + length (field_in l.quoted (drop l.n l.text)) ≡ length (field_in false l.text);
}

abbrev pub decreases-loop-n : goal.decreases-loop-n
decreases-loop-n l = length l.text - l.n
