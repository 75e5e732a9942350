use Rattle.member_decks.proofs.Names.{refl}
use Rattle.std.specs.Fmt.{digits}
use Rattle.member_decks.proofs.examples.examples_of_deck_steps.Goals as goal

pub returns-clause-entered : goal.returns-clause-entered
unfolding digits
returns-clause-entered c = (refl, refl)

pub returns-clause-full : goal.returns-clause-full
unfolding digits
returns-clause-full c = (refl, refl)

pub returns-clause-lost : goal.returns-clause-lost
unfolding digits
returns-clause-lost c = (refl, refl)
