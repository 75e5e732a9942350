use Rattle.std.proofs.Common.{◌-◌, sym, arith}
use Rattle.nje_net.specs.Nets.{no_node}
use Rattle.nje_net.proofs.Items.{item_read}
use Rattle.nje_net.proofs.Joined.{node_inside}
use Rattle.nje_net.proofs.nets.node.Goals as goal

pub returns : goal.returns
returns c =
    let low = (node_inside c.args.net.now c.args.node c.requires).0 in
    sym (item_read no_node c.args.node (c.args.node - 1) c.args.net.now.nodes c.item.result.now (omega arith) c.item.ensures)
