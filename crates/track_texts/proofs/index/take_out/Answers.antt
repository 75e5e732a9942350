use Rattle.track_texts.proofs.IndexLemmas.{others_stay}
use Rattle.track_texts.proofs.index.take_out.Goals as goal

pub returns-in-Ok-clause-others : goal.returns-in-Ok-clause-others
returns-in-Ok-clause-others c = others_stay c.args.groups.now c.insert.new.self c.args.key c.new.result c.in-Ok.ensures.updates
