use Rattle.queue_effect.proofs.LawLemmas.{sound_fit}
use Rattle.queue_effect.proofs.laws.law_of_fit_tables.Goals as goal

pub returns : goal.returns
returns c = sound_fit
