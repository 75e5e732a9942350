use Rattle.std.proofs.Common.{◌≤◌, ◌+◌, sym, ◌∙◌, ap, subst, length, arith}
use Rattle.std.proofs.lemmas.List.{take_all}
use Rattle.std.specs.List.{AllByRecursion}
use Rattle.model_queue.proofs.RunLemmas.{at_place}
use Rattle.member_core.specs.Events.{runs, start}
use Rattle.member_core.specs.Told.{IsFitEvent}
use Rattle.member_core.proofs.Counted.{below_more, runs_more}
use Rattle.member_core.proofs.Right.{finds_right, right}
use Rattle.member_core.proofs.steps.no_run_loses.Goals as goal

pub loop-event-init : goal.loop-event-init
loop-event-init c = record { world = c.in_ok-world.ensures.value; holds = c.in_ok-world.ensures.holds c.requires.sound; steps = c.in_ok-world.ensures.steps }

pub world_step-requires-clause-fit : goal.world_step-requires-clause-fit
world_step-requires-clause-fit c =
    let all = subst (AllByRecursion IsFitEvent) (sym c.as_slice-event-items.ensures) c.requires.fit in
    at_place IsFitEvent c.as_slice-event-items.result.now c.loop-event.event-index c.event-item.result all c.loop-event-test.true c.event-item.is

pub world_step-requires-clause-steps : goal.world_step-requires-clause-steps
world_step-requires-clause-steps c =
    let same = ap length c.as_slice-event-items.ensures in
    let few : c.loop-event.event-index + 2 ≤ 4294967295 = omega (arith, same) in
    below_more (c.loop-event.event-index + 2) 4294967295 c.loop-event.world.members few c.loop-event.invariant.steps

pub loop-event-preserved : goal.loop-event-preserved
loop-event-preserved c =
    let w = c.loop-event.world in
    let i = c.loop-event.event-index in
    let grown : i + 2 + 1 ≤ i + 1 + 2 = omega arith in
    record {
      world =
          c.in_ok-_possible.ensures.moves
          ∙ runs_more (start c.args.base.now) w c.as_slice-event-items.result.now i c.event-item.result c.loop-event-test.true c.event-item.is c.loop-event.invariant.world;
      holds = c.in_ok-_possible.ensures.holds;
      steps = below_more (i + 2 + 1) (i + 1 + 2) _ grown (c.in_ok-_possible.ensures.steps (i + 2) c.loop-event.invariant.steps);
    }

pub returns-clause-world : goal.returns-clause-world
returns-clause-world c =
    c.loop-event.invariant.world
    ∙ ap (runs (start c.args.base.now)) (take_all c.loop-event.event-index c.as_slice-event-items.result.now (omega arith) ∙ c.as_slice-event-items.ensures)

pub returns-clause-right : goal.returns-clause-right
returns-clause-right c = right c.loop-event.world c.loop-event.invariant.holds

pub returns-clause-finds : goal.returns-clause-finds
returns-clause-finds c = finds_right c.loop-event.world c.loop-event.invariant.holds
