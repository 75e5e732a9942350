use Rattle.page_marks.proofs.MarkLemmas.{touch_lines}
use Rattle.std.proofs.Common.{◌≡◌, ◌-◌, ◌==◌, false, List, ap, set, arith}
use Rattle.std.proofs.lemmas.Bool.Decides.{nat_tests}
use Rattle.mas_types.specs.declared.queues.LineCount.{LineCount}
use Rattle.queue_effect.proofs.SlotLemmas.{change_found}
use Rattle.queue_effect.proofs.wire.put_got.Goals as goal

pub returns-clause-value : goal.returns-clause-value
returns-clause-value c =
    let some : (c.args.line == 0) ≡ false = grind (arith, nat_tests) in
    rw some (ap (λ (ls : List LineCount). record c.args.tables.now { lines = ls }) (change_found (λ (x : LineCount). record x { got = c.args.number }) (c.args.line - 1) c.args.tables.now.lines _ c.item_mut.ensures.value))

pub returns-clause-touches : goal.returns-clause-touches
returns-clause-touches c fit =
    rw c.put.ensures (touch_lines c.args.marks.now.pages c.args.tables.now (set c.args.tables.now.lines (c.args.line - 1) (record c.item_mut.result.now { got = c.args.number })) (omega (arith, c.args.marks.now.many)))
