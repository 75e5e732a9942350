use Rattle.std.proofs.Common.{◌≤◌, length, refl, sym, ap, ◌∙◌, arith}
use Rattle.mas_types.specs.declared.queues.Owner.TheVariants as owner
use Rattle.queue_laws.specs.OwnerChange.{is_thing}
use Rattle.member_core.proofs.Places.{at_past, at_found}
use Rattle.member_core.proofs.writes.is_thing_at.Goals as goal

pub returns-then-group-len : goal.returns-then-group-len
returns-then-group-len c = let past : length c.args.queue.now.owners ≤ c.args.group.0 = omega (arith, c.len.ensures) in rw (at_past owner.Free c.args.group.0 c.args.queue.now.owners past) refl

pub returns : goal.returns
returns c = c.is_thing.ensures ∙ sym (ap is_thing (at_found owner.Free c.args.group.0 c.args.queue.now.owners c.item.result.now c.item.ensures))
