use Rattle.std.proofs.Common.{◌≡◌, ◌∙◌, ◌+◌, ◌-◌, ◌<◌, [], length, sym, refl, arith}
use Rattle.std.specs.Prelude.{min}
use Rattle.ckpt_pages.proofs.RunLemmas.{page_at, within, one_more, bad_page}
use Rattle.ckpt_pages.proofs.entries.read_pages.Goals as goal

pub returns-in-Err-Bad-clause-bad : goal.returns-in-Err-Bad-clause-bad
returns-in-Err-Bad-clause-bad g c =
    let h = rw c.in-Err-Bad.field-0-is at c.in-Err-Bad.ensures in
    let bad = h.bad refl in
    let sum : c.loop-rest.rest + length c.loop-rest.items ≡ c.args.total = c.loop-rest.invariant.0 in
    let lt : length c.loop-rest.items < c.args.total = omega arith in
    let some : c.min-count.result ≡ min (c.args.total - length c.loop-rest.items) c.args.a_page = omega (arith, c.min-count.ensures) in
    let here = page_at c.args.pages.now c.loop-rest.page (record { 0 = [] }) (within g.E.Entry.spelling g.E.Entry.has_spelling c.args.a_page c.args.first c.args.total c.args.pages.now c.loop-rest.page c.loop-rest.items c.loop-rest.invariant.1 lt c.requires.enough) in
    bad_page g.E.Entry.spelling g.E.Entry.has_spelling c.args.a_page c.args.first c.args.total c.args.pages.now c.loop-rest.page c.min-count.result c.bytes_in.result.now c.loop-rest.items c.loop-rest.invariant.1 lt
    (here ∙ sym c.bytes_in.ensures.bytes) some bad

pub loop-rest-preserved : goal.loop-rest-preserved
loop-rest-preserved g c =
    let sum : c.loop-rest.rest + length c.loop-rest.items ≡ c.args.total = c.loop-rest.invariant.0 in
    let lt : length c.loop-rest.items < c.args.total = omega arith in
    let some : c.min-count.result ≡ min (c.args.total - length c.loop-rest.items) c.args.a_page = omega (arith, c.min-count.ensures) in
    let here = page_at c.args.pages.now c.loop-rest.page (record { 0 = [] }) (within g.E.Entry.spelling g.E.Entry.has_spelling c.args.a_page c.args.first c.args.total c.args.pages.now c.loop-rest.page c.loop-rest.items c.loop-rest.invariant.1 lt c.requires.enough) in
    one_more g.E.Entry.spelling g.E.Entry.has_spelling c.args.a_page c.args.first c.args.total c.args.pages.now c.loop-rest.page c.loop-rest.rest c.min-count.result c.bytes_in.result.now c.loop-rest.items c.read_entries.new.into
    sum c.loop-rest.invariant.1 lt (here ∙ sym c.bytes_in.ensures.bytes) c.bytes_in.ensures.size some c.in-Ok.ensures.ok
