use Rattle.queue_texts.proofs.LeftLemmas.{others_leave}
use Rattle.queue_texts.proofs.OwnLemmas.{sound_own, told_own}
use Rattle.queue_texts.proofs.laws.law_of_texts.Goals as goal

pub returns : goal.returns
returns c = record { texts = others_leave; sound = sound_own; told = told_own }
