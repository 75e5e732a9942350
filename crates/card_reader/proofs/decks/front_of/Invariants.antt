use Rattle.std.proofs.Common.{◌≡◌, take, drop}
use Rattle.mas_types.specs.LinesLeft.{left_in}
use Rattle.card_reader.proofs.decks.front_of.Given as goal

abbrev pub invariant-loop-at : goal.invariant-loop-at
invariant-loop-at l = (l.text ≡ take l._at l.cards) × (left_in l.rest ≡ drop l._at l.cards)
