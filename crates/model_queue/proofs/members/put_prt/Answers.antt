use Rattle.std.proofs.Common.{◌≡◌, ◌≤◌, ◌-◌, ◌==◌, false, length, sym, arith}
use Rattle.std.proofs.lemmas.Bool.Decides.{nat_tests}
use Rattle.mas_types.specs.declared.queues.Setting.{Setting}
use Rattle.model_queue.proofs.Listed.{change_past, change_found}
use Rattle.model_queue.proofs.members.put_prt.Goals as goal

pub returns-then-by-len : goal.returns-then-by-len
returns-then-by-len c =
    let some : (c.args.by.0 == 0) ≡ false = grind (arith, nat_tests) in
    let past : length c.args.members.now ≤ c.args.by.0 - 1 = omega arith in
    rw some (sym (change_past (λ (s : Setting). record s { prt = c.args.classes; forms = c.args.forms; lines = c.args.lines }) (c.args.by.0 - 1) c.args.members.now past))

pub returns : goal.returns
returns c =
    let some : (c.args.by.0 == 0) ≡ false = grind (arith, nat_tests) in
    rw some (sym (change_found (λ (s : Setting). record s { prt = c.args.classes; forms = c.args.forms; lines = c.args.lines }) (c.args.by.0 - 1) c.args.members.now c.item_mut-setting.result.now c.item_mut-setting.ensures.value))
