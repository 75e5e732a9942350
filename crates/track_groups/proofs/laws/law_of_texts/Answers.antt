use Rattle.track_groups.proofs.TextLemmas.{gets_lowest, others_stay, texts_stay, texts_stay_freed}
use Rattle.track_groups.proofs.laws.law_of_texts.Goals as goal

pub returns : goal.returns
returns c = record { lowest = gets_lowest; others = others_stay; texts = texts_stay; freeing = texts_stay_freed }
