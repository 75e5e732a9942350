use Rattle.std.proofs.Common.{◌≤◌, length, refl, sym, ap, ◌∙◌, arith}
use Rattle.member_core.specs.declared.worlds.CopyAt.{CopyAt}
use Rattle.member_core.specs.Worlds.{no_copy, reads_so_many}
use Rattle.member_core.proofs.Places.{at_past, at_found}
use Rattle.member_core.proofs.pair.reads_so_many_at.Goals as goal

pub returns-then-at-len : goal.returns-then-at-len
returns-then-at-len c = let past : length c.args.copies.now ≤ c.args.at = omega (arith, c.len.ensures, c.if-at-len.true) in rw (at_past no_copy c.args.at c.args.copies.now past) refl

pub returns : goal.returns
returns c = c.copy_reads_so_many.ensures ∙ sym (ap (λ (x : CopyAt). reads_so_many c.args.count x) (at_found no_copy c.args.at c.args.copies.now c.item.result.now c.item.ensures))
