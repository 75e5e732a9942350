use Rattle.std.proofs.Common.{◌≡◌, ◌+◌, ◌-◌, ◌≤◌, drop, length}
use Rattle.card_reader.specs.Cards.{word}
use Rattle.card_reader.proofs.cards.word_length.Given as goal

-- the word's length is the bytes passed and the length of the word in what is left
abbrev pub invariant-loop-n : goal.invariant-loop-n
invariant-loop-n l = record {
  within : l.n ≤ length l.text;
  rest : l.n + length (word (drop l.n l.text)) ≡ length (word l.text);
}

abbrev pub decreases-loop-n : goal.decreases-loop-n
decreases-loop-n l = length l.text - l.n
