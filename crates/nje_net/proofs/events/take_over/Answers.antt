use Rattle.std.proofs.Common.{◌∙◌, sym}
use Rattle.nje_net.specs.Nets.{is_node}
use Rattle.nje_net.proofs.Tests.{and_left}
use Rattle.nje_net.proofs.events.take_over.Goals as goal

pub job_at-requires : goal.job_at-requires
job_at-requires c = and_left (is_node c.args.net.now c.args.end.node) _ (sym c.may_take.ensures ∙ c.if-not-may_take.false)
