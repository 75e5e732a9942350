use Rattle.std.proofs.Common.{sym, ◌∙◌}
use Rattle.ckpt_pages.proofs.EntryLemmas.{no_entry, no_tail}
use Rattle.ckpt_pages.proofs.TestingLemmas.{one_stands, all_stand}
use Rattle.ckpt_pages.proofs.testing.are_entries.Goals as goal

pub returns-then-not-is_entry-clause-bad : goal.returns-then-not-is_entry-clause-bad
returns-then-not-is_entry-clause-bad g c h =
    no_entry g.E.Entry.spelling g.E.Entry.has_spelling g.E.Entry.WIDTH g.met.E.Entry.size c.args.count c.loop-entry._entry c.loop-entry.at c.WIDTH.result c.args.bytes.now
    c.loop-entry-test.true c.loop-entry.invariant.1.place c.WIDTH.ensures (c.is_entry.ensures.bad c.if-not-is_entry.true)

pub loop-entry-preserved : goal.loop-entry-preserved
loop-entry-preserved g c =
    one_stands g.E.Entry.spelling g.E.Entry.has_spelling g.E.Entry.WIDTH c.WIDTH.result c.WIDTH-at.result c.loop-entry._entry c.loop-entry.at c.args.bytes.now
    c.loop-entry.invariant c.WIDTH.ensures c.WIDTH-at.ensures (c.is_entry.ensures.good c.if-not-is_entry.false)

pub returns-clause-good : goal.returns-clause-good
returns-clause-good g c h =
    all_stand g.E.Entry.spelling g.E.Entry.has_spelling g.E.Entry.WIDTH c.args.count c.loop-entry._entry c.loop-entry.at c.args.bytes.now
    c.loop-entry.invariant c.loop-entry.auto._entry-end c.loop-entry-test.false c.requires (sym h ∙ c.is_zero.ensures)

pub returns-clause-bad : goal.returns-clause-bad
returns-clause-bad g c h =
    no_tail g.E.Entry.spelling g.E.Entry.has_spelling g.E.Entry.WIDTH g.met.E.Entry.size c.args.count c.loop-entry._entry c.loop-entry.at c.args.bytes.now
    c.loop-entry.auto._entry-end c.loop-entry-test.false c.loop-entry.invariant.1.place (sym h ∙ c.is_zero.ensures)
