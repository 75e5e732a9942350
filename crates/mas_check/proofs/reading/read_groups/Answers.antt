use Rattle.std.proofs.Common.{ap, arith, length, List, subst, sym}
use Rattle.std.proofs.lemmas.List.{take_all}
use Rattle.std.proofs.lemmas.Nat.{div_below}
use Rattle.mas_types.specs.declared.queues.Owner.{Owner}
use Rattle.mas_check.proofs.WorldLemmas.{reads_none}
use Rattle.mas_check.proofs.GroupLemmas.{HaveRead, read_next}
use Rattle.mas_check.proofs.reading.read_groups.Goals as goal

pub loop-i-init : goal.loop-i-init
loop-i-init g c = record { reads = reads_none g.P.Plant.tells (g.P.Plant.view c.args.plant.now); held = λ told none. c.new-groups.ensures; count = ap length c.new-groups.ensures }

pub find_group-requires-clause-volume : goal.find_group-requires-clause-volume
find_group-requires-clause-volume g c = omega (arith, div_below c.loop-i.i c.args.per 8 (omega (arith, c.requires.some)) (omega (arith, c.loop-i-test.true, c.requires.few)))

pub loop-i-preserved : goal.loop-i-preserved
loop-i-preserved g c =
    let P = g.P.Plant in
    rw c.in_ok-push.ensures.ok
    (read_next P.tells (P.view c.args.plant.now) (P.view c.loop-i.plant) (P.view c.find_group.new.plant) c.args.per c.args.owners.now c.loop-i.i _ c.loop-i.groups c.find_group.result c.loop-i-test.true c.loop-i.invariant c.find_group.ensures.reads c.find_group.ensures.held)

pub returns : goal.returns
returns g c =
    let P = g.P.Plant in
    let owners = c.args.owners.now in
    let have = subst (λ (os : List Owner). HaveRead P.tells (P.view c.args.plant.now) (P.view c.loop-i.plant) c.args.per os c.loop-i.groups) (take_all c.loop-i.i owners c.loop-i-test.false) c.loop-i.invariant in
    record { reads = have.reads; groups = λ told none. sym (have.held told none); count = have.count }
