use Rattle.std.proofs.Common.{sym, ◌∙◌}
use Rattle.std.proofs.lemmas.Result.{err_from_is_err_and}
use Rattle.ckpt_pages.proofs.EntryLemmas.{bad_again, read_step, read_all, no_entry, no_tail}
use Rattle.ckpt_pages.proofs.entries.read_entries.Goals as goal

pub returns-in_err-item-clause-bad : goal.returns-in_err-item-clause-bad
returns-in_err-item-clause-bad g c h =
    let p = err_from_is_err_and c.from_residual.result c.from_residual.ensures.1 in
    let e = bad_again (Unit {0}) g.row.E.Denot c.from_residual.result _ c.in_err-item.field-0.0 p.1 p.2 h in
    no_entry g.E.Entry.spelling g.E.Entry.has_spelling g.E.Entry.WIDTH g.met.E.Entry.size c.args.count c.loop-entry._entry c.loop-entry.at c.WIDTH.result c.args.bytes.now
    c.loop-entry-test.true c.loop-entry.invariant.place c.WIDTH.ensures (c.in_err-item.ensures.bad e)

pub loop-entry-preserved : goal.loop-entry-preserved
loop-entry-preserved g c =
    read_step g.E.Entry.spelling g.E.Entry.has_spelling g.E.Entry.WIDTH c.WIDTH.result c.WIDTH-at.result c.loop-entry._entry c.loop-entry.at c.args.bytes.now c.args.into.now c.loop-entry.into c.push.new.self c.in_ok-item.item
    c.loop-entry.invariant c.WIDTH.ensures c.WIDTH-at.ensures c.in_ok-item.ensures.found c.in-Ok.ensures.ok

pub returns-then-is_zero-clause-ok : goal.returns-then-is_zero-clause-ok
returns-then-is_zero-clause-ok g c =
    read_all g.E.Entry.spelling g.E.Entry.has_spelling g.E.Entry.WIDTH c.args.count c.loop-entry._entry c.loop-entry.at c.args.bytes.now c.args.into.now c.loop-entry.into
    c.loop-entry.invariant c.loop-entry.auto._entry-end c.loop-entry-test.false c.requires (sym c.if-is_zero.true ∙ c.is_zero.ensures)

pub returns-else-is_zero-clause-bad : goal.returns-else-is_zero-clause-bad
returns-else-is_zero-clause-bad g c h =
    no_tail g.E.Entry.spelling g.E.Entry.has_spelling g.E.Entry.WIDTH g.met.E.Entry.size c.args.count c.loop-entry._entry c.loop-entry.at c.args.bytes.now
    c.loop-entry.auto._entry-end c.loop-entry-test.false c.loop-entry.invariant.place (sym c.if-is_zero.false ∙ c.is_zero.ensures)
