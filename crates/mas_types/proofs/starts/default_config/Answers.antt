use Rattle.mas_types.proofs.EmptyQueue.{default_config-fits}
use Rattle.mas_types.proofs.starts.default_config.Goals as goal

pub returns-clause-fits : goal.returns-clause-fits
returns-clause-fits c = default_config-fits
