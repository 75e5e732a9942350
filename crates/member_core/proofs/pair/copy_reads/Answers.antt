use Rattle.std.proofs.Common.{◌≤◌, length, arith}
use Rattle.member_core.specs.Worlds.{no_copy}
use Rattle.member_core.proofs.Places.{at_past, at_found}
use Rattle.member_core.proofs.pair.copy_reads.Goals as goal

pub returns-then-at-len : goal.returns-then-at-len
returns-then-at-len c = let past : length c.args.copies.now ≤ c.args.at = omega (arith, c.len.ensures, c.if-at-len.true) in rw (at_past no_copy c.args.at c.args.copies.now past) c.new.ensures

pub returns : goal.returns
returns c = rw (at_found no_copy c.args.at c.args.copies.now c.item.result.now c.item.ensures) (c.copy_good.ensures)
