use Rattle.std.proofs.Common.{◌≡◌, ◌+◌, length}
use Rattle.ckpt_pages.proofs.RunLemmas.{AreReadTo}
use Rattle.ckpt_pages.proofs.entries.read_pages.Given as goal

abbrev pub decreases-loop-rest : goal.decreases-loop-rest
decreases-loop-rest g l = l.rest

abbrev pub invariant-loop-rest : goal.invariant-loop-rest
invariant-loop-rest g l = (l.rest + length l.items ≡ l.total) × AreReadTo g.E.Entry.spelling g.E.Entry.has_spelling l.a_page l.first l.total l.pages l.page l.items
