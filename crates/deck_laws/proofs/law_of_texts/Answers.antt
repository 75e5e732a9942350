use Rattle.deck_laws.proofs.Converting.{text_read, text_reads}
use Rattle.deck_laws.proofs.law_of_texts.Goals as goal

pub returns : goal.returns
returns c job text steps = (text_read job text steps, text_reads job text steps)
