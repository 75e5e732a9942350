use Rattle.std.proofs.Common.{◌≡◌, ◌∙◌, ◌+◌, ◌-◌, ◌<◌, [], length, sym, arith}
use Rattle.std.specs.Prelude.{min}
use Rattle.ckpt_pages.proofs.RunLemmas.{page_at, within, bad_page}
use Rattle.ckpt_pages.proofs.TestingLemmas.{one_before}
use Rattle.ckpt_pages.proofs.testing.first_bad_of.Goals as goal

pub returns-then-not-are_entries-clause-bad : goal.returns-then-not-are_entries-clause-bad
returns-then-not-are_entries-clause-bad g c =
    let items = c.loop-rest.invariant.0 in
    let sum : c.loop-rest.rest + length items ≡ c.args.total = c.loop-rest.invariant.1 in
    let lt : length items < c.args.total = omega (arith, sum, c.loop-rest-test.true) in
    let some : c.min-count.result ≡ min (c.args.total - length items) c.args.a_page = omega (arith, c.min-count.ensures, sum) in
    let here = page_at c.args.pages.now c.loop-rest.page (record { 0 = [] }) (within g.E.Entry.spelling g.E.Entry.has_spelling c.args.a_page c.args.first c.args.total c.args.pages.now c.loop-rest.page items c.loop-rest.invariant.2 lt c.requires.enough) in
    bad_page g.E.Entry.spelling g.E.Entry.has_spelling c.args.a_page c.args.first c.args.total c.args.pages.now c.loop-rest.page c.min-count.result c.bytes_in.result.now items c.loop-rest.invariant.2 lt
    (here ∙ sym c.bytes_in.ensures.bytes) some (c.are_entries.ensures.bad c.if-not-are_entries.true)

pub loop-rest-preserved : goal.loop-rest-preserved
loop-rest-preserved g c =
    let items = c.loop-rest.invariant.0 in
    let sum : c.loop-rest.rest + length items ≡ c.args.total = c.loop-rest.invariant.1 in
    let lt : length items < c.args.total = omega (arith, sum, c.loop-rest-test.true) in
    let some : c.min-count.result ≡ min (c.args.total - length items) c.args.a_page = omega (arith, c.min-count.ensures, sum) in
    let here = page_at c.args.pages.now c.loop-rest.page (record { 0 = [] }) (within g.E.Entry.spelling g.E.Entry.has_spelling c.args.a_page c.args.first c.args.total c.args.pages.now c.loop-rest.page items c.loop-rest.invariant.2 lt c.requires.enough) in
    one_before g.E.Entry.spelling g.E.Entry.has_spelling c.args.a_page c.args.first c.args.total c.args.pages.now c.loop-rest.page c.loop-rest.rest c.min-count.result c.bytes_in.result.now
    c.loop-rest.invariant lt (here ∙ sym c.bytes_in.ensures.bytes) c.bytes_in.ensures.size some (c.are_entries.ensures.good c.if-not-are_entries.false)
