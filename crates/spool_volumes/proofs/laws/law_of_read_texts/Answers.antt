use Rattle.spool_volumes.proofs.TextLemmas.{reads_texts}
use Rattle.spool_volumes.proofs.laws.law_of_read_texts.Goals as goal

pub returns : goal.returns
returns c = reads_texts c.law_of_texts.ensures
