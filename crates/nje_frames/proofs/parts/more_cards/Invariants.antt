use Rattle.std.proofs.Common.{◌≡◌, ◌-◌}
use Rattle.nje_frames.specs.Reading.{cards_at, with_cards}
use Rattle.nje_frames.proofs.parts.more_cards.Given as goal

abbrev pub invariant-loop : goal.invariant-loop
invariant-loop l = with_cards l.text (cards_at (l.most - l.counter) l.rest) ≡ with_cards l.fn.text (cards_at l.most l.bytes)
