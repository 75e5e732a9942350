use Rattle.std.proofs.Common.{◌≤◌, refl, sym, subst, arith}
use Rattle.std.proofs.lemmas.List.Elements.{All-get_or}
use Rattle.mas_types.specs.Fit.{IsOutSpec}
use Rattle.queue_effect.proofs.GroupLemmas.{groups_small, sum_more}
use Rattle.queue_effect.proofs.ending.groups_of.Goals as goal

pub overflow_add-groups : goal.overflow_add-groups
overflow_add-groups c =
    let spec : IsOutSpec c.output-item.result = subst IsOutSpec (sym c.output-item.is) (All-get_or IsOutSpec c.args.outputs.now c.loop-output.output-index c.output-item.result c.loop-output-test.true c.requires.fit) in
    let small : c.groups_needed-groups.result ≤ 10000 = rw c.groups_needed-groups.ensures (groups_small c.output-item.result.text spec.text) in
    let low = c.loop-output.invariant.few in
    omega arith

pub loop-output-preserved : goal.loop-output-preserved
loop-output-preserved c =
    let spec : IsOutSpec c.output-item.result = subst IsOutSpec (sym c.output-item.is) (All-get_or IsOutSpec c.args.outputs.now c.loop-output.output-index c.output-item.result c.loop-output-test.true c.requires.fit) in
    let small : c.groups_needed-groups.result ≤ 10000 = rw c.groups_needed-groups.ensures (groups_small c.output-item.result.text spec.text) in
    let low = c.loop-output.invariant.few in
    let more = sum_more c.args.outputs.now c.loop-output.output-index c.output-item.result c.loop-output-test.true c.output-item.is in
    record { sum = rw (more, ← c.loop-output.invariant.sum, ← c.groups_needed-groups.ensures) refl; few = omega arith }
