use Rattle.std.proofs.Common.{sym}
use Rattle.nje_net.specs.Events.{is_on}
use Rattle.nje_net.proofs.Firsts.{without_nothing, nothing}
use Rattle.nje_net.proofs.holding.take_first.Goals as goal

pub returns-in_default : goal.returns-in_default
returns-in_default c = sym (without_nothing (is_on c.args.line) c.args.jobs.now (nothing c.place_on.result c.in_default.is c.place_on.ensures.none))
