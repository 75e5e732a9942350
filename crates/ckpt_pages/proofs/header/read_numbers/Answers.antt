use Rattle.std.proofs.Common.{sym, ◌∙◌, arith}
use Rattle.ckpt_pages.proofs.HeaderLemmas.{numbers_take, not_checked, not_whole}
use Rattle.ckpt_pages.proofs.header.read_numbers.Goals as goal

pub returns-in_default-clause-bad : goal.returns-in_default-clause-bad
returns-in_default-clause-bad c h k is e = not_checked c.args.head.now _ c.in_default.ensures.err k is e

pub returns-then-is_whole-clause-found : goal.returns-then-is_whole-clause-found
returns-then-is_whole-clause-found c =
    numbers_take c.args.head.now c.header_of-header.result c.requires (λ i. omega (arith, c.type_inv.head i)) c.in-Ok.ensures.ok c.header_of-header.ensures (sym c.is_whole.ensures ∙ c.if-is_whole.true)

pub returns-else-is_whole-clause-bad : goal.returns-else-is_whole-clause-bad
returns-else-is_whole-clause-bad c h k is e = not_whole c.args.head.now c.header_of-header.result c.header_of-header.ensures (sym c.is_whole.ensures ∙ c.if-is_whole.false) k is e
