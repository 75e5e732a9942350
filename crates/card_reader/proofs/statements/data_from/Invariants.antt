use Rattle.std.proofs.Common.{◌≡◌, ◌+◌, ◌-◌, ◌≤◌, drop, length}
use Rattle.mas_types.specs.LinesLeft.{left_in}
use Rattle.card_reader.specs.Statements.{data_behind}
use Rattle.card_reader.proofs.statements.data_from.Given as goal

-- the data is the cards passed and the data in the cards that are left
abbrev pub invariant-loop-at : goal.invariant-loop-at
invariant-loop-at l = record {
  behind : l.from ≤ l.at;
  within : l.at ≤ length l.cards;
  left : left_in l.rest ≡ drop l.at l.cards;
  cards : l.at + (data_behind l.ending (drop l.at l.cards)).cards ≡ l.from + (data_behind l.ending (drop l.from l.cards)).cards;
  taken : l.at + (data_behind l.ending (drop l.at l.cards)).taken ≡ l.from + (data_behind l.ending (drop l.from l.cards)).taken;
}

abbrev pub decreases-loop-at : goal.decreases-loop-at
decreases-loop-at l = length l.cards - l.at
