use Rattle.std.proofs.Common.{◌≡◌, ◌++◌, take}
use Rattle.nje_frames.specs.Grammar.{cards_text}
use Rattle.nje_frames.proofs.writing.push_cards.Given as goal

abbrev pub invariant-loop-at : goal.invariant-loop-at
invariant-loop-at l = l.bytes ≡ l.fn.bytes ++ cards_text (take l.at l.text)
