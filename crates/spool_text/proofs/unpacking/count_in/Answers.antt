use Rattle.std.proofs.Common.{◌≡◌, true, ◌+◌, drop, get_or, ◌∙◌, arith}
use Rattle.spool_text.proofs.GroupSteps.{check_step, counted_none}
use Rattle.spool_text.proofs.RecordLemmas.{begins_record}
use Rattle.spool_text.proofs.unpacking.count_in.Goals as goal

pub loop-at-init : goal.loop-at-init
loop-at-init c = record { within = omega arith; few = omega arith; same = counted_none c.args.group.now }

pub loop-at-preserved : goal.loop-at-preserved
loop-at-preserved c =
    let fits : begins_record (get_or c.args.group.now c.loop-at.at 0) (drop (c.loop-at.at + 1) c.args.group.now) ≡ true = cc in
    let next = check_step c.args.group.now c.loop-at.at c.loop-at.count c.told-group c.loop-at-test.true c.if-group-at.true fits in
    record { within = next.0; few = omega (arith, c.loop-at.invariant.few); same = next.1 ∙ c.loop-at.invariant.same }
