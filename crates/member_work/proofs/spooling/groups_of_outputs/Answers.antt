use Rattle.member_work.proofs.Names.{◌≤◌, refl, sym, subst, arith, All-get_or, IsOutSpec, groups_small, sum_more}
use Rattle.member_work.proofs.spooling.groups_of_outputs.Goals as goal

pub overflow_add-groups : goal.overflow_add-groups
overflow_add-groups c =
    let spec : IsOutSpec c.spec-item.result = subst IsOutSpec (sym c.spec-item.is) (All-get_or IsOutSpec c.args.specs.now c.loop-spec.spec-index c.spec-item.result c.loop-spec-test.true c.requires.each) in
    let small : c.groups_needed-groups.result ≤ 10000 = rw c.groups_needed-groups.ensures (groups_small c.spec-item.result.text spec.text) in
    let low = c.loop-spec.invariant.few in
    omega arith

pub loop-spec-preserved : goal.loop-spec-preserved
loop-spec-preserved c =
    let spec : IsOutSpec c.spec-item.result = subst IsOutSpec (sym c.spec-item.is) (All-get_or IsOutSpec c.args.specs.now c.loop-spec.spec-index c.spec-item.result c.loop-spec-test.true c.requires.each) in
    let small : c.groups_needed-groups.result ≤ 10000 = rw c.groups_needed-groups.ensures (groups_small c.spec-item.result.text spec.text) in
    let low = c.loop-spec.invariant.few in
    let more = sum_more c.args.specs.now c.loop-spec.spec-index c.spec-item.result c.loop-spec-test.true c.spec-item.is in
    record { sum = rw (more, ← c.loop-spec.invariant.sum, ← c.groups_needed-groups.ensures) refl; few = omega arith }

pub returns-clause-few : goal.returns-clause-few
returns-clause-few c =
    let low = c.loop-spec.invariant.few in
    let few = c.requires.few in
    omega arith
