use Rattle.std.proofs.Common.{◌≡◌, ◌+◌, ◌-◌, ◌≤◌, drop, length}
use Rattle.card_reader.specs.Decks.{seen_after, nothing_seen}
use Rattle.card_reader.specs.Statements.{items_from, items_of, up_to_end}
use Rattle.card_reader.proofs.decks.see_all.Given as goal

-- the cards that are left decide what is seen of the deck, after what was seen so far
abbrev pub invariant-loop-at : goal.invariant-loop-at
invariant-loop-at l = record {
  within : l.at ≤ length l.cards;
  rest : seen_after l.own l.seen (up_to_end (items_from (l.at + 1) 0 (drop l.at l.cards))) ≡ seen_after l.own nothing_seen (items_of l.cards);
}

abbrev pub decreases-loop-at : goal.decreases-loop-at
decreases-loop-at l = length l.cards - l.at
