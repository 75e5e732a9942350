use Rattle.std.proofs.Common.{◌≡◌, ◌+◌, take}
use Rattle.member_core.specs.Events.{runs, start}
use Rattle.member_core.specs.Holds.{Holds}
use Rattle.member_core.specs.Steps.{AreStepsBelow}
use Rattle.member_core.proofs.steps.no_run_loses.Given as goal

-- the world after the events so far
abbrev pub invariant-loop-event : goal.invariant-loop-event
invariant-loop-event l = record {
  world : l.world ≡ runs (start l.base) (take l.event-index l.event-items);
  holds : Holds l.world;
  steps : AreStepsBelow (l.event-index + 2) l.world.members;
}
