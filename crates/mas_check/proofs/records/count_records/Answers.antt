use Rattle.std.proofs.Common.{◌≡◌, ◌+◌, ◌<◌, ◌∙◌, true, false, drop, get_or, arith}
use Rattle.mas_types.specs.Limits.{page_bytes}
use Rattle.mas_types.specs.Records.{end_byte}
use Rattle.mas_check.specs.Records.{begins_record}
use Rattle.mas_check.proofs.CountLemmas.{counted, more_none, count_next, count_none, count_done}
use Rattle.mas_check.proofs.records.count_records.Goals as goal
use Rattle.mas_check.proofs.records.count_records.Goals.{then-loop-at-test+else-page-at, else-loop-at-test}

pub loop-at-init : goal.loop-at-init
loop-at-init c = record { within = omega arith; few = omega arith; same = more_none (counted c.args.page.now) }

pub loop-at-preserved : goal.loop-at-preserved
loop-at-preserved c =
    let fits : begins_record (get_or c.args.page.now c.loop-at.at 0) (drop (c.loop-at.at + 1) c.args.page.now) ≡ true = cc in
    let next = count_next c.args.page.now c.loop-at.at c.loop-at.count c.told-page c.loop-at.invariant.same c.loop-at-test.true c.if-page-at.true fits in
    record { within = next.0; few = omega (arith, c.loop-at.invariant.few); same = next.1 }

pub returns-then-not-is_record_at : goal.returns-then-not-is_record_at
returns-then-not-is_record_at c =
    let bad : begins_record (get_or c.args.page.now c.loop-at.at 0) (drop (c.loop-at.at + 1) c.args.page.now) ≡ false = cc in
    count_none c.args.page.now c.loop-at.at c.loop-at.count c.told-page c.loop-at.invariant.same c.loop-at-test.true c.if-page-at.true bad

pub returns : goal.returns
returns c =
    let ends : c.loop-at.at < page_bytes → get_or c.args.page.now c.loop-at.at 0 ≡ end_byte = elim c.loop-at-test.branch [
      | then-loop-at-test+else-page-at w ↦ λ lt. w.if-page-at.false
      | else-loop-at-test w ↦ λ lt. absurd (omega (arith, w.loop-at-test.false, lt))
    ] in
    c.counted_up_to.ensures ∙ count_done c.args.page.now c.loop-at.at c.loop-at.count c.told-page c.loop-at.invariant.same ends
