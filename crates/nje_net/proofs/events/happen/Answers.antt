use Rattle.std.proofs.Common.{◌∙◌, sym, ap, arith}
use Rattle.nje_net.specs.Events.{moved}
use Rattle.nje_net.proofs.Bounds.{line_below}
use Rattle.nje_net.proofs.events.happen.Goals as goal

pub give-requires : goal.give-requires
give-requires c = (line_below 4294967295 c.args.world.now c.in-Give.at c.in-Give.line (omega arith) c.requires).0

pub returns-in-Load-clause-ok : goal.returns-in-Load-clause-ok
returns-in-Load-clause-ok c = c.load.ensures ∙ ap (moved c.args.net.now c.args.world.now) (sym c.in-Load.is)
