use Rattle.std.proofs.Common.{◌≤◌, ◌+◌, [], sym, ◌∙◌, ap, subst, length, arith}
use Rattle.std.proofs.lemmas.List.{take_all}
use Rattle.nje_net.specs.declared.worlds.NetEvent.TheVariants as event
use Rattle.nje_net.specs.Worlds.{start}
use Rattle.nje_net.specs.Events.{runs}
use Rattle.nje_net.specs.Lossless.{IsBelow, NoneIsLost, dests_entered}
use Rattle.nje_net.proofs.Bounds.{below_more, runs_more, start_below}
use Rattle.nje_net.proofs.Moves.{no_run_loses}
use Rattle.nje_net.proofs.runs.no_net_loses.Goals as goal

pub loop-event-init : goal.loop-event-init
loop-event-init c = record { world = c.in_ok-world.ensures; below = subst (IsBelow 1) (sym c.in_ok-world.ensures) (start_below c.args.net.now) }

pub net_step-requires : goal.net_step-requires
net_step-requires c =
    let same = ap length c.as_slice-event-items.ensures in
    let few : c.loop-event.event-index + 1 ≤ 4294967295 = omega (arith, same) in
    below_more (c.loop-event.event-index + 1) 4294967295 c.loop-event.world few c.loop-event.invariant.below

pub loop-event-preserved : goal.loop-event-preserved
loop-event-preserved c = record {
  world =
      c.in_ok-net_step.ensures.ok
      ∙ runs_more c.args.net.now (start c.args.net.now) c.loop-event.world c.as_slice-event-items.result.now c.loop-event.event-index
      (event.Enter 0 (record { 0 = [] })) c.loop-event-test.true c.loop-event.invariant.world;
  below = c.net_step.ensures.below (c.loop-event.event-index + 1) c.loop-event.invariant.below;
}

pub returns-clause-world : goal.returns-clause-world
returns-clause-world c =
    c.loop-event.invariant.world
    ∙ ap (runs c.args.net.now (start c.args.net.now)) (take_all c.loop-event.event-index c.as_slice-event-items.result.now (omega arith) ∙ c.as_slice-event-items.ensures)

pub returns-clause-none : goal.returns-clause-none
returns-clause-none c =
    subst (NoneIsLost c.args.net.now (dests_entered c.args.net.now c.args.events.now))
    (sym (c.loop-event.invariant.world
    ∙ ap (runs c.args.net.now (start c.args.net.now)) (take_all c.loop-event.event-index c.as_slice-event-items.result.now (omega arith) ∙ c.as_slice-event-items.ensures)))
    (no_run_loses c.args.net.now c.args.events.now c.requires.ok)
