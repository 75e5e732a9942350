use Rattle.queue_effect.proofs.SpanLemmas.{holds_all}
use Rattle.queue_effect.proofs.spans.span_of_all.Goals as goal

pub returns : goal.returns
returns g c = holds_all (g.S.Seeks.seeks c.args.sought.now) c.args.owners.now c.span_of.result c.span_of.ensures
