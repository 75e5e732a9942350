use Rattle.std.proofs.Common.{◌≡◌, ◌+◌, ◌-◌, ◌≤◌, drop, length}
use Rattle.card_reader.specs.Statements.{cards_to_end}
use Rattle.card_reader.proofs.decks.cards_to_end.Given as goal

-- the cards before the end are the cards passed and those before the end in what is left
abbrev pub invariant-loop-at : goal.invariant-loop-at
invariant-loop-at l = record {
  within : l.at ≤ length l.cards;
  rest : l.at + cards_to_end 0 (drop l.at l.cards) ≡ cards_to_end 0 l.cards;
}

abbrev pub decreases-loop-at : goal.decreases-loop-at
decreases-loop-at l = length l.cards - l.at
