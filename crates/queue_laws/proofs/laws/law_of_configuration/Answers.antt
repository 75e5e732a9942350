use Rattle.queue_laws.proofs.Configuration.{keeps_configuration}
use Rattle.queue_laws.proofs.laws.law_of_configuration.Goals as goal

pub returns : goal.returns
returns c = keeps_configuration
