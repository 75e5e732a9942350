use Rattle.std.proofs.Common.{◌-◌, ◌∙◌, List, slice_set, ap, sym, arith}
use Rattle.mas_types.specs.Lists.{without_first}
use Rattle.nje_net.specs.declared.worlds.Held.{Held}
use Rattle.nje_net.specs.Events.{is_on}
use Rattle.nje_net.proofs.Items.{item_past, item_found}
use Rattle.nje_net.proofs.holding.take_off_line.Goals as goal

pub returns-then-node-len : goal.returns-then-node-len
returns-then-node-len c = sym (item_past (without_first (is_on c.args.line)) c.args.node c.args.held.now (omega arith))

pub returns : goal.returns
returns c =
    ap (λ (hs : List Held). slice_set c.args.held.now (c.args.node - 1) hs) c.take_first.ensures
    ∙ sym (item_found (without_first (is_on c.args.line)) c.args.node (c.args.node - 1) c.args.held.now c.item_mut.result.now (omega arith) c.item_mut.ensures.value)
