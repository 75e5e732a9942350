use Rattle.spool_volumes.proofs.TextLemmas.{leaves_texts}
use Rattle.spool_volumes.proofs.laws.law_of_left_texts.Goals as goal

pub returns : goal.returns
returns c = leaves_texts c.law_of_texts.ensures
