use Rattle.std.proofs.Common.{◌≡◌, ◌+◌, ◌-◌, ◌≤◌, ◌++◌, drop, length}
use Rattle.card_reader.specs.Statements.{continued}
use Rattle.card_reader.proofs.statements.append_continued.Given as goal

-- the cards that are left continue the text that was joined so far
abbrev pub invariant-loop-at : goal.invariant-loop-at
invariant-loop-at l = record {
  behind : l.from ≤ l.at;
  within : l.at ≤ length l.cards;
  text : l.text ++ (continued (drop l.at l.cards)).text ≡ l.fn.text ++ (continued (drop l.from l.cards)).text;
  whole : (continued (drop l.at l.cards)).whole ≡ (continued (drop l.from l.cards)).whole;
  cards : l.at + (continued (drop l.at l.cards)).cards ≡ l.from + (continued (drop l.from l.cards)).cards;
}

abbrev pub decreases-loop-at : goal.decreases-loop-at
decreases-loop-at l = length l.cards - l.at
