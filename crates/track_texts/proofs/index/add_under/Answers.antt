use Rattle.track_texts.proofs.IndexLemmas.{added}
use Rattle.track_texts.proofs.index.add_under.Goals as goal

pub returns-in-Ok : goal.returns-in-Ok
returns-in-Ok c = added c.args.groups.now c.take_out.new.groups c.insert.new.self c.args.key c.in_ok-own.own c.push.new.self c.args.group c.in_ok-own.ensures.own c.in_ok-push.ensures.ok c.in_ok-own.ensures.others c.in-Ok.ensures.updates
