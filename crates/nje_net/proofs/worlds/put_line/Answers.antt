use Rattle.std.proofs.Common.{◌-◌, ◌∙◌, List, slice_set, ap, sym, arith}
use Rattle.nje_net.specs.declared.worlds.NetLine.{NetLine}
use Rattle.nje_net.specs.Numbered.{change_item}
use Rattle.nje_net.proofs.Items.{item_past, item_found}
use Rattle.nje_net.proofs.worlds.put_line.Goals as goal

pub returns-then-node-len : goal.returns-then-node-len
returns-then-node-len c = sym (item_past (change_item c.args.line (λ (was : NetLine). c.args.value)) c.args.node c.args.lines.now (omega arith))

pub returns : goal.returns
returns c =
    ap (λ (xs : List NetLine). slice_set c.args.lines.now (c.args.node - 1) xs) c.put.ensures
    ∙ sym (item_found (change_item c.args.line (λ (was : NetLine). c.args.value)) c.args.node (c.args.node - 1) c.args.lines.now c.item_mut.result.now (omega arith) c.item_mut.ensures.value)
