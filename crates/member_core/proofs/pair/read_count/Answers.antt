use Rattle.std.proofs.Common.{◌≤◌, length, refl, sym, ap, ◌∙◌, arith}
use Rattle.member_core.specs.declared.worlds.CopyAt.{CopyAt}
use Rattle.member_core.specs.Worlds.{no_copy, good_reads}
use Rattle.member_core.proofs.Places.{at_past, at_found}
use Rattle.member_core.proofs.pair.read_count.Goals as goal

pub returns-then-at-len : goal.returns-then-at-len
returns-then-at-len c = let past : length c.args.copies.now ≤ c.args.at = omega (arith, c.len.ensures, c.if-at-len.true) in rw (at_past no_copy c.args.at c.args.copies.now past) refl

pub returns : goal.returns
returns c = c.good_count.ensures ∙ sym (ap (λ (x : CopyAt). length (good_reads x)) (at_found no_copy c.args.at c.args.copies.now c.item.result.now c.item.ensures))
