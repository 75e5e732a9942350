use Rattle.mas_types.proofs.EmptyQueue.{default_setting-fits}
use Rattle.mas_types.proofs.starts.default_setting.Goals as goal

pub returns-clause-fits : goal.returns-clause-fits
returns-clause-fits c = rw (c.in_ok-all_classes.ensures, c.in_ok-all_classes-2.ensures) default_setting-fits
