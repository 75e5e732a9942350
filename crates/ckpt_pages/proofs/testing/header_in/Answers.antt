use Rattle.std.proofs.Common.{◌≡◌, ◌∙◌, length, sym, arith}
use Rattle.ckpt_pages.specs.declared.header.Header.{Header}
use Rattle.ckpt_pages.proofs.SlotPageLemmas.{err_is}
use Rattle.ckpt_pages.proofs.HeaderLemmas.{no_numbers, first_page}
use Rattle.ckpt_pages.proofs.TestingLemmas.{header_there, no_ages}
use Rattle.ckpt_pages.proofs.testing.header_in.Goals as goal

pub returns-in_default-clause-bad : goal.returns-in_default-clause-bad
returns-in_default-clause-bad c h =
    let here = first_page c.args.pages.now c.in_ok-page.page.now (sym c.in_ok-page.ensures.value) ∙ sym c.bytes_in.ensures.bytes in
    no_numbers c.args.pages.now c.bytes_in.result.now c.split_at.result.0.now here c.split_at.ensures.front (c.in_default.ensures.bad (err_is Header _ c.in_default.ensures.only))

pub returns-then-are_levels-clause-found : goal.returns-then-are_levels-clause-found
returns-then-are_levels-clause-found c =
    let here = first_page c.args.pages.now c.in_ok-page.page.now (sym c.in_ok-page.ensures.value) ∙ sym c.bytes_in.ensures.bytes in
    let len : length c.split_at.result.1.now ≡ 3072 = omega (arith, c.split_at.ensures.back_len, c.bytes_in.ensures.size) in
    header_there c.args.pages.now c.bytes_in.result.now c.split_at.result.0.now c.split_at.result.1.now c.in-Ok.header here c.bytes_in.ensures.size c.split_at.ensures.front c.split_at.ensures.back len
    c.in-Ok.ensures.found (sym c.pages_asked.ensures ∙ c.if-pages_asked-pages.false) (c.are_levels.ensures.good c.if-are_levels.true)

pub returns-else-are_levels-clause-bad : goal.returns-else-are_levels-clause-bad
returns-else-are_levels-clause-bad c h =
    let here = first_page c.args.pages.now c.in_ok-page.page.now (sym c.in_ok-page.ensures.value) ∙ sym c.bytes_in.ensures.bytes in
    let len : length c.split_at.result.1.now ≡ 3072 = omega (arith, c.split_at.ensures.back_len, c.bytes_in.ensures.size) in
    no_ages c.args.pages.now c.bytes_in.result.now c.split_at.result.0.now c.split_at.result.1.now c.in-Ok.header here c.split_at.ensures.front c.split_at.ensures.back len
    c.in-Ok.ensures.found (c.are_levels.ensures.bad c.if-are_levels.false)
