use Rattle.deck_laws.proofs.Converting.{text_read}
use Rattle.deck_laws.proofs.Within.{text-fits}
use Rattle.deck_laws.proofs.law_of_limits.Goals as goal

pub returns : goal.returns
returns c job text steps fits are is = text-fits job fits text steps are (text_read job text steps is)
