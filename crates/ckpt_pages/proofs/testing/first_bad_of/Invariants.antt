use Rattle.ckpt_pages.proofs.TestingLemmas.{StandBefore}
use Rattle.ckpt_pages.proofs.testing.first_bad_of.Given as goal

abbrev pub decreases-loop-rest : goal.decreases-loop-rest
decreases-loop-rest g l = l.rest

abbrev pub invariant-loop-rest : goal.invariant-loop-rest
invariant-loop-rest g l = StandBefore g.E.Entry.spelling g.E.Entry.has_spelling l.a_page l.first l.total l.pages l.page l.rest
