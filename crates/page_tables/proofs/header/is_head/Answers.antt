use Rattle.std.proofs.Common.{◌∙◌, sym, arith}
use Rattle.page_tables.proofs.HeaderOver.{bad_fields, head_from}
use Rattle.page_tables.proofs.header.is_head.Goals as goal

pub returns-then-not-is_same-clause-bad : goal.returns-then-not-is_same-clause-bad
returns-then-not-is_same-clause-bad c is has = c.is_same.ensures.apart c.if-not-is_same.true (c.config_in-said.ensures ∙ has.config)

pub returns-in_default-clause-bad : goal.returns-in_default-clause-bad
returns-in_default-clause-bad c is has = bad_fields c.args.config.now c.args.head.now _ c.in_default.ensures.err has

pub returns-clause-good : goal.returns-clause-good
returns-clause-good c is =
    head_from c.args.config.now c.args.head.now c.requires.config c.requires.size (λ i. omega (arith, c.type_inv.head i)) c.in-Ok.ensures.ok (sym c.config_in-said.ensures ∙ c.is_same.ensures.same c.if-not-is_same.false)
