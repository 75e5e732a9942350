use Rattle.queue_laws.proofs.Others.{keeps_busy}
use Rattle.queue_laws.proofs.laws.law_of_busy_parts.Goals as goal

pub returns : goal.returns
returns c = keeps_busy
