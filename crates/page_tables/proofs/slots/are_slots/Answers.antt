use Rattle.std.proofs.Common.{sym, ◌∙◌}
use Rattle.ckpt_pages.proofs.EntryLemmas.{no_entry, no_tail}
use Rattle.ckpt_pages.proofs.TestingLemmas.{one_stands, all_stand}
use Rattle.page_tables.proofs.SlotLemmas.{none_of, some_of}
use Rattle.page_tables.proofs.slots.are_slots.Goals as goal

pub returns-then-is_none-clause-bad : goal.returns-then-is_none-clause-bad
returns-then-is_none-clause-bad g c h =
    no_entry g.S.Slot.spelling (g.S.Slot.fits c.args.order) g.S.Slot.WIDTH (g.met.S.Slot.size c.args.order) c.args.count c.loop-slot._slot c.loop-slot.at c.WIDTH.result c.args.bytes.now
    c.loop-slot-test.true c.loop-slot.invariant.1.place c.WIDTH.ensures (λ x fits e. none_of c.read.result x c.is_none.result c.is_none.ensures c.if-is_none.true (c.read.ensures.only x fits e))

pub loop-slot-preserved : goal.loop-slot-preserved
loop-slot-preserved g c =
    one_stands g.S.Slot.spelling (g.S.Slot.fits c.args.order) g.S.Slot.WIDTH c.WIDTH.result c.WIDTH-at.result c.loop-slot._slot c.loop-slot.at c.args.bytes.now
    c.loop-slot.invariant c.WIDTH.ensures c.WIDTH-at.ensures (some_of g.S.Slot.spelling (g.S.Slot.fits c.args.order) _ c.read.result c.is_none.result c.is_none.ensures c.if-is_none.false c.read.ensures.found)

pub returns-clause-good : goal.returns-clause-good
returns-clause-good g c h =
    all_stand g.S.Slot.spelling (g.S.Slot.fits c.args.order) g.S.Slot.WIDTH c.args.count c.loop-slot._slot c.loop-slot.at c.args.bytes.now
    c.loop-slot.invariant c.loop-slot.auto._slot-end c.loop-slot-test.false c.requires (sym h ∙ c.is_zero.ensures)

pub returns-clause-bad : goal.returns-clause-bad
returns-clause-bad g c h =
    no_tail g.S.Slot.spelling (g.S.Slot.fits c.args.order) g.S.Slot.WIDTH (g.met.S.Slot.size c.args.order) c.args.count c.loop-slot._slot c.loop-slot.at c.args.bytes.now
    c.loop-slot.auto._slot-end c.loop-slot-test.false c.loop-slot.invariant.1.place (sym h ∙ c.is_zero.ensures)
