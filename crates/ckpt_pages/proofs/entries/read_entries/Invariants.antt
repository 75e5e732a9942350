use Rattle.ckpt_pages.proofs.EntryLemmas.{IsReadTo}
use Rattle.ckpt_pages.proofs.entries.read_entries.Given as goal

abbrev pub invariant-loop-entry : goal.invariant-loop-entry
invariant-loop-entry g l = IsReadTo g.E.Entry.spelling g.E.Entry.has_spelling g.E.Entry.WIDTH l._entry l.at l.bytes l.fn.into l.into
