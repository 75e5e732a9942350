use Rattle.std.proofs.Common.{◌≡◌, ◌≤◌, ◌∙◌, length, sym, ap, arith}
use Rattle.member_core.specs.declared.worlds.MemberAt.{MemberAt}
use Rattle.member_core.specs.Worlds.{absent}
use Rattle.member_core.specs.Events.{has_stopped}
use Rattle.member_core.proofs.Places.{at_found, change_past, change_found}
use Rattle.member_core.proofs.crashes.put_stopped.Goals as goal

pub returns-then-m-len : goal.returns-then-m-len
returns-then-m-len c =
    let x = c.item_mut-member.result.now in
    let step : c.step_of-step.result ≡ x.step = c.step_of-step.ensures ∙ ap (λ (y : MemberAt). y.step) (at_found absent c.args.m.0 c.args.members.now x c.item_mut-member.ensures.value) in
    rw step (sym (change_found has_stopped c.args.m.0 c.args.members.now x c.item_mut-member.ensures.value))

pub returns-else-m-len : goal.returns-else-m-len
returns-else-m-len c = let past : length c.args.members.now ≤ c.args.m.0 = omega arith in sym (change_past has_stopped c.args.m.0 c.args.members.now past)
