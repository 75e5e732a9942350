use Rattle.std.proofs.Common.{length}
use Rattle.page_tables.proofs.SlotLemmas.{all_taken, one_of, one_taken}
use Rattle.page_tables.proofs.slots.take_slots.Goals as goal

pub take_slot-requires-clause-some : goal.take_slot-requires-clause-some
take_slot-requires-clause-some g c =
    one_of g.S.Slot.spelling (g.S.Slot.fits c.args.order) g.S.Slot.WIDTH (g.met.S.Slot.size c.args.order) (length c.args.items.now) c.loop-place.place c.loop-place.at c.WIDTH.result c.args.bytes.now
    c.requires.some c.loop-place-test.true c.loop-place.invariant.reads.place c.WIDTH.ensures

pub loop-place-preserved : goal.loop-place-preserved
loop-place-preserved g c =
    one_taken g.S.Slot.spelling (g.S.Slot.fits c.args.order) g.S.Slot.WIDTH (g.met.S.Slot.size c.args.order) (length c.args.items.now) c.loop-place.place c.loop-place.at c.WIDTH.result c.WIDTH-at.result c.args.bytes.now c.loop-place.items c.take_slot.new.item
    c.loop-place.invariant c.loop-place-test.true c.WIDTH.ensures c.WIDTH-at.ensures c.take_slot.ensures

pub returns : goal.returns
returns g c =
    all_taken g.S.Slot.spelling (g.S.Slot.fits c.args.order) g.S.Slot.WIDTH (g.met.S.Slot.size c.args.order) (length c.args.items.now) c.loop-place.place c.loop-place.at c.args.bytes.now c.loop-place.items
    c.loop-place.invariant c.loop-place.auto.place-end c.loop-place-test.false c.requires.room c.requires.some
