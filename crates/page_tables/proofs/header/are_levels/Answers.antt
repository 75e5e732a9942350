use Rattle.std.proofs.Common.{sym, ◌∙◌, arith}
use Rattle.ckpt_pages.proofs.TestingLemmas.{one_level_more, levels_stand, level_outside, no_zeros}
use Rattle.page_tables.proofs.header.are_levels.Goals as goal

pub returns-then-age-lt1-clause-bad : goal.returns-then-age-lt1-clause-bad
returns-then-age-lt1-clause-bad c h =
    level_outside c.args.level c.args.count c.loop-page.page c.long_at-age.result c.args.bytes.now c.loop-page-test.true c.long_at-age.ensures (λ some most. omega (arith, some, most))

pub loop-page-preserved : goal.loop-page-preserved
loop-page-preserved c =
    one_level_more c.args.level c.loop-page.page c.args.count c.long_at-age.result c.args.bytes.now c.loop-page.invariant c.loop-page-test.true c.requires.room (λ i. omega (arith, c.type_inv.bytes i)) c.long_at-age.type_inv c.long_at-age.ensures
    (omega arith) (omega arith)

pub returns-clause-good : goal.returns-clause-good
returns-clause-good c h =
    levels_stand c.args.level c.loop-page.page c.args.count c.read_u64.result c.args.bytes.now c.loop-page.invariant c.loop-page.auto.page-end c.loop-page-test.false c.requires.some c.requires.room
    c.read_u64.ensures c.if-read_u64-level.false (sym h ∙ c.is_zero.ensures)

pub returns-clause-bad : goal.returns-clause-bad
returns-clause-bad c h = no_zeros c.args.level c.args.count c.args.bytes.now (sym h ∙ c.is_zero.ensures)
