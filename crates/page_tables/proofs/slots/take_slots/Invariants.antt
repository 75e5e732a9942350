use Rattle.std.proofs.Common.{length}
use Rattle.page_tables.proofs.SlotLemmas.{AreTakenTo}
use Rattle.page_tables.proofs.slots.take_slots.Given as goal

abbrev pub invariant-loop-place : goal.invariant-loop-place
invariant-loop-place g l = AreTakenTo g.S.Slot.spelling (g.S.Slot.fits l.order) g.S.Slot.WIDTH (length l.fn.items) l.place l.at l.bytes l.items
