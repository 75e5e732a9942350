use Rattle.std.proofs.Common.{◌∙◌, sym}
use Rattle.nje_net.proofs.Missing.{end_missing}
use Rattle.nje_net.proofs.nets.end_at.Goals as goal

pub returns-then-not-is_node : goal.returns-then-not-is_node
returns-then-not-is_node c = c.no_end.ensures ∙ sym (end_missing c.args.net.now c.args.at c.args.line (sym c.is_node.ensures ∙ c.if-not-is_node.true))
