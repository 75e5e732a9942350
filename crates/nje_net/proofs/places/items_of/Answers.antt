use Rattle.std.proofs.Common.{◌-◌, [], ◌∙◌, sym, arith}
use Rattle.nje_net.proofs.Items.{item_zero, item_over, item_read}
use Rattle.nje_net.proofs.places.items_of.Goals as goal
use Rattle.nje_net.proofs.places.items_of.Goals.{then-number-eq0-via-then-number-eq0, then-number-eq0-via-else-number-eq0+then-number-len}

pub returns-then-number-eq0 : goal.returns-then-number-eq0
returns-then-number-eq0 g c =
    elim c.then-number-eq0.branch [
      | then-number-eq0-via-then-number-eq0 w ↦ sym (item_zero [] c.args.number c.args.lists.now (omega (arith, w.if-number-eq0.true)))
      | then-number-eq0-via-else-number-eq0+then-number-len w ↦ sym (item_over [] c.args.number c.args.lists.now (omega (arith, w.if-number-len.true, w.len.ensures)))
    ]

pub returns : goal.returns
returns g c = c.as_slice.ensures ∙ sym (item_read [] c.args.number (c.args.number - 1) c.args.lists.now c.item.result.now (omega arith) c.item.ensures)
