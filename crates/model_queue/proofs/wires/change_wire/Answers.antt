use Rattle.std.proofs.Common.{◌≡◌, ◌≤◌, ◌-◌, ◌==◌, false, length, sym, arith}
use Rattle.std.proofs.lemmas.Bool.Decides.{nat_tests}
use Rattle.model_queue.proofs.Listed.{change_past, change_found}
use Rattle.model_queue.proofs.wires.change_wire.Goals as goal

pub returns-then-line-len : goal.returns-then-line-len
returns-then-line-len g c =
    let some : (c.args.line == 0) ≡ false = grind (arith, nat_tests) in
    let past : length c.args.lines.now ≤ c.args.line - 1 = omega arith in
    rw some (sym (change_past (g.F.Changes.changed c.args.change.now) (c.args.line - 1) c.args.lines.now past))

pub returns : goal.returns
returns g c =
    let some : (c.args.line == 0) ≡ false = grind (arith, nat_tests) in
    rw (some, c.change.ensures) (sym (change_found (g.F.Changes.changed c.args.change.now) (c.args.line - 1) c.args.lines.now c.item_mut.result.now c.item_mut.ensures.value))
