use Rattle.std.proofs.Common.{[], sym, subst}
use Rattle.std.proofs.lemmas.Result.{IfOk-weaker}
use Rattle.member_core.specs.declared.worlds.World.{World}
use Rattle.member_core.specs.Holds.{Holds}
use Rattle.member_core.specs.Steps.{AreStepsBelow}
use Rattle.member_core.proofs.Counted.{steps_start}
use Rattle.member_core.proofs.Every.{every_run}
use Rattle.member_core.proofs.worlds.World.new.Goals as goal

pub returns-clause-holds : goal.returns-clause-holds
returns-clause-holds c = λ sound. IfOk-weaker c.new_world.result _ Holds (λ w is. subst Holds (sym is) (every_run c.args.base.now [] sound tt)) c.new_world.ensures

pub returns-clause-steps : goal.returns-clause-steps
returns-clause-steps c =
    IfOk-weaker c.new_world.result _ (λ (w : World). AreStepsBelow 2 w.members) (λ w is. subst (λ (v : World). AreStepsBelow 2 v.members) (sym is) (steps_start c.args.base.now)) c.new_world.ensures
