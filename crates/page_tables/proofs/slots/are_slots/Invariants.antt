use Rattle.ckpt_pages.proofs.TestingLemmas.{StandTo}
use Rattle.page_tables.proofs.slots.are_slots.Given as goal

abbrev pub invariant-loop-slot : goal.invariant-loop-slot
invariant-loop-slot g l = StandTo g.S.Slot.spelling (g.S.Slot.fits l.order) g.S.Slot.WIDTH l._slot l.at l.bytes
