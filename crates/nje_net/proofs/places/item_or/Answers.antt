use Rattle.std.proofs.Common.{◌-◌, length, refl, sym, arith}
use Rattle.std.proofs.lemmas.Option.{slice_get_read}
use Rattle.nje_net.proofs.Items.{item_zero, item_over, item_read}
use Rattle.nje_net.proofs.places.item_or.Goals as goal
use Rattle.nje_net.proofs.places.item_or.Goals.{then-number-eq0-via-then-number-eq0, then-number-eq0-via-else-number-eq0+then-number-items}

pub returns-then-number-eq0 : goal.returns-then-number-eq0
returns-then-number-eq0 g c =
    elim c.then-number-eq0.branch [
      | then-number-eq0-via-then-number-eq0 w ↦ sym (item_zero c.args.none c.args.number c.args.items.now (omega (arith, w.if-number-eq0.true)))
      | then-number-eq0-via-else-number-eq0+then-number-items w ↦ sym (item_over c.args.none c.args.number c.args.items.now (omega (arith, w.if-number-items.true)))
    ]

pub returns : goal.returns
returns g c =
    sym (item_read c.args.none c.args.number (c.args.number - 1) c.args.items.now c.index-items-number.result (omega arith)
    (slice_get_read c.args.items.now (length c.args.items.now) (c.args.number - 1) c.index-items-number.result refl (omega arith) c.index-items-number.is))
