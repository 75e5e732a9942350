use Rattle.std.proofs.Common.{◌≤◌, length, sym, arith}
use Rattle.member_core.specs.Events.{renewed}
use Rattle.member_core.proofs.Places.{change_past, change_found}
use Rattle.member_core.proofs.pair.renew_at.Goals as goal

pub returns-then-at-len : goal.returns-then-at-len
returns-then-at-len c = rw c.renew_copy.ensures (sym (change_found (renewed c.args.kept) c.args.at c.args.copies.now c.item_mut.result.now c.item_mut.ensures.value))

pub returns-else-at-len : goal.returns-else-at-len
returns-else-at-len c = let past : length c.args.copies.now ≤ c.args.at = omega arith in sym (change_past (renewed c.args.kept) c.args.at c.args.copies.now past)
