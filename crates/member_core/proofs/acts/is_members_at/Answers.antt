use Rattle.std.proofs.Common.{◌≤◌, length, refl, sym, ap, ◌∙◌, arith}
use Rattle.mas_types.specs.declared.queues.Owner.TheVariants as owner
use Rattle.mas_types.specs.Owners.{is_members}
use Rattle.member_core.proofs.Places.{at_past, at_found}
use Rattle.member_core.proofs.acts.is_members_at.Goals as goal

pub returns-then-group-len : goal.returns-then-group-len
returns-then-group-len c = let past : length c.args.queue.now.owners ≤ c.args.group.0 = omega (arith, c.len.ensures) in rw (at_past owner.Free c.args.group.0 c.args.queue.now.owners past) refl

pub returns : goal.returns
returns c = c.is_members.ensures ∙ sym (ap (is_members c.args.m) (at_found owner.Free c.args.group.0 c.args.queue.now.owners c.item.result.now c.item.ensures))
