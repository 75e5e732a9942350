use Rattle.std.proofs.Common.{◌≤◌, length, refl, sym, ap, ◌∙◌, arith}
use Rattle.member_core.specs.Worlds.{absent}
use Rattle.member_core.specs.Events.{is_idle}
use Rattle.member_core.proofs.Places.{at_past, at_found}
use Rattle.member_core.proofs.spools.is_idle.Goals as goal

pub returns-then-m-len : goal.returns-then-m-len
returns-then-m-len c = let past : length c.args.members.now ≤ c.args.m.0 = omega (arith, c.len.ensures, c.if-m-len.true) in rw (at_past absent c.args.m.0 c.args.members.now past) refl

pub returns : goal.returns
returns c = c.is_member_idle.ensures ∙ sym (ap is_idle (at_found absent c.args.m.0 c.args.members.now c.item.result.now c.item.ensures))
