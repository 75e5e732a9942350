use Rattle.std.proofs.Common.{◌≡◌, ◌+◌, ◌-◌, ◌≤◌, drop, length}
use Rattle.mas_types.specs.LinesLeft.{left_in}
use Rattle.mas_types.specs.Limits.{text_lines_most}
use Rattle.card_reader.specs.Decks.{refused_card}
use Rattle.card_reader.proofs.decks.refused_card.Given as goal

-- the cards that are left decide which card is refused
abbrev pub invariant-loop-at : goal.invariant-loop-at
invariant-loop-at l = record {
  within : l.at ≤ length l.cards;
  few : l.at ≤ text_lines_most;
  left : left_in l.rest ≡ drop l.at l.cards;
  rest : refused_card (l.at + 1) (l.end + 1) (drop l.at l.cards) ≡ refused_card 1 (l.end + 1) l.cards;
}

abbrev pub decreases-loop-at : goal.decreases-loop-at
decreases-loop-at l = length l.cards - l.at
