use Rattle.ckpt_pages.proofs.TestingLemmas.{StandTo}
use Rattle.ckpt_pages.proofs.testing.are_entries.Given as goal

abbrev pub invariant-loop-entry : goal.invariant-loop-entry
invariant-loop-entry g l = StandTo g.E.Entry.spelling g.E.Entry.has_spelling g.E.Entry.WIDTH l._entry l.at l.bytes
