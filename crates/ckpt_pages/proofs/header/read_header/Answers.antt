use Rattle.std.proofs.Common.{◌≡◌, ◌∙◌, length, sym, arith}
use Rattle.std.proofs.lemmas.Result.{err_from_is_err_and}
use Rattle.ckpt_pages.specs.declared.header.Header.{Header}
use Rattle.ckpt_pages.proofs.EntryLemmas.{bad_again}
use Rattle.ckpt_pages.proofs.HeaderLemmas.{header_found, no_numbers, no_levels, other_ages, few_pages, first_page}
use Rattle.ckpt_pages.proofs.header.read_header.Goals as goal

pub read_entries-requires : goal.read_entries-requires
read_entries-requires c = omega (arith, few_pages c.in_ok-header.header c.in_ok-header.ensures.found.0, c.pages_asked.ensures, c.if-pages_asked-pages.false, c.split_at.ensures.back_len, c.bytes_in.ensures.size)

pub returns-in_err-header-clause-bad : goal.returns-in_err-header-clause-bad
returns-in_err-header-clause-bad c h =
    let here = first_page c.args.pages.now c.in-Some.page.now (sym c.in-Some.ensures.value) ∙ sym c.bytes_in.ensures.bytes in
    let p = err_from_is_err_and c.from_residual.result c.from_residual.ensures.1 in
    no_numbers c.args.pages.now c.bytes_in.result.now c.split_at.result.0.now here c.split_at.ensures.front (c.in_err-header.ensures.bad (bad_again Header Header c.from_residual.result _ c.in_err-header.field-0.0 p.1 p.2 h))

pub returns-in_err-read_entries-clause-bad : goal.returns-in_err-read_entries-clause-bad
returns-in_err-read_entries-clause-bad c h =
    let here = first_page c.args.pages.now c.in-Some.page.now (sym c.in-Some.ensures.value) ∙ sym c.bytes_in.ensures.bytes in
    let len : length c.split_at.result.1.now ≡ 3072 = omega (arith, c.split_at.ensures.back_len, c.bytes_in.ensures.size) in
    let p = err_from_is_err_and c.from_residual-in_err-read_entries.result c.from_residual-in_err-read_entries.ensures.1 in
    no_levels c.args.pages.now c.bytes_in.result.now c.split_at.result.1.now here c.split_at.ensures.back len (c.in_err-read_entries.ensures.bad (bad_again Header (Unit {0}) c.from_residual-in_err-read_entries.result _ c.in_err-read_entries.field-0.0 p.1 p.2 h))

pub returns-then-are_ages-clause-found : goal.returns-then-are_ages-clause-found
returns-then-are_ages-clause-found c =
    let here = first_page c.args.pages.now c.in-Some.page.now (sym c.in-Some.ensures.value) ∙ sym c.bytes_in.ensures.bytes in
    let len : length c.split_at.result.1.now ≡ 3072 = omega (arith, c.split_at.ensures.back_len, c.bytes_in.ensures.size) in
    let ages = sym c.are_ages.ensures ∙ c.if-are_ages.true in
    let ages' = rw c.as_slice.ensures at ages in
    let read = rw c.new-levels.ensures at c.in_ok-read_entries.ensures.ok in
    header_found c.args.pages.now c.bytes_in.result.now c.split_at.result.0.now c.split_at.result.1.now c.read_entries.new.into c.in_ok-header.header here c.bytes_in.ensures.size c.split_at.ensures.front c.split_at.ensures.back len
    c.in_ok-header.ensures.found (sym c.pages_asked.ensures ∙ c.if-pages_asked-pages.false) read ages'

pub returns-clause-bad : goal.returns-clause-bad
returns-clause-bad c h =
    let here = first_page c.args.pages.now c.in-Some.page.now (sym c.in-Some.ensures.value) ∙ sym c.bytes_in.ensures.bytes in
    let len : length c.split_at.result.1.now ≡ 3072 = omega (arith, c.split_at.ensures.back_len, c.bytes_in.ensures.size) in
    let ages = sym c.are_ages.ensures ∙ c.if-are_ages.false in
    let ages' = rw c.as_slice.ensures at ages in
    let read = rw c.new-levels.ensures at c.in_ok-read_entries.ensures.ok in
    other_ages c.args.pages.now c.bytes_in.result.now c.split_at.result.0.now c.split_at.result.1.now c.read_entries.new.into c.in_ok-header.header here c.split_at.ensures.front c.split_at.ensures.back len
    c.in_ok-header.ensures.found read ages'
