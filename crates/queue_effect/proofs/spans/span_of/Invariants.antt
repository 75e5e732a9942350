use Rattle.queue_effect.proofs.SpanLemmas.{SpanTo}
use Rattle.queue_effect.proofs.spans.span_of.Given as goal

abbrev pub invariant-loop-at : goal.invariant-loop-at
invariant-loop-at g l = SpanTo (g.S.Seeks.seeks l.sought) l.owners l.at l.first l.end l.found
