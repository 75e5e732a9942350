use Rattle.std.proofs.Common.{◌≡◌, length}
use Rattle.card_reader.specs.Cards.{without_blanks}
use Rattle.card_reader.proofs.cards.without_blanks.Given as goal

-- what is left and the whole text are the same after their first blanks
abbrev pub invariant-loop-rest : goal.invariant-loop-rest
invariant-loop-rest l = without_blanks l.rest ≡ without_blanks l.fn.text

abbrev pub decreases-loop-rest : goal.decreases-loop-rest
decreases-loop-rest l = length l.rest
