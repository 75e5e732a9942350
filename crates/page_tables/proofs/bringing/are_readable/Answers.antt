use Rattle.std.proofs.Common.{◌∙◌, [], sym, arith}
use Rattle.ckpt_tables.specs.Pages.{page_in}
use Rattle.ckpt_pages.proofs.RunLemmas.{page_at}
use Rattle.page_tables.specs.Bringing.{order_in}
use Rattle.page_tables.proofs.TakeLemmas.{reads_here, reads_more, reads_there}
use Rattle.page_tables.proofs.bringing.are_readable.Goals as goal

pub returns-then-not-may_take-clause-bad : goal.returns-then-not-may_take-clause-bad
returns-then-not-may_take-clause-bad c is all =
    let pages = c.args.pages.now in
    let first = page_at c.args.pages.now 0 (record { 0 = [] }) (omega arith) in
    let here = page_at c.args.pages.now c.loop-page.page (record { 0 = [] }) (omega arith) in
    c.may_take.ensures.bad c.if-not-may_take.true
    (λ marked. reads_here c.args.config.now pages c.loop-page.page c.order_of-order.result _ _ first c.order_of-order.ensures here (all c.loop-page.page (record { some = omega arith; within = omega arith; newer = sym c.has-has_mark.ensures ∙ marked })))

pub loop-page-preserved : goal.loop-page-preserved
loop-page-preserved c =
    let pages = c.args.pages.now in
    let first = page_at c.args.pages.now 0 (record { 0 = [] }) (omega arith) in
    let here = page_at c.args.pages.now c.loop-page.page (record { 0 = [] }) (omega arith) in
    reads_more c.args.config.now (order_in (page_in pages 0)) pages c.args.marks.now.pages c.loop-page.page c.loop-page.invariant
    (λ marked. reads_there c.args.config.now pages c.loop-page.page c.order_of-order.result _ _ first c.order_of-order.ensures here (c.may_take.ensures.good c.if-not-may_take.false (c.has-has_mark.ensures ∙ marked)))
