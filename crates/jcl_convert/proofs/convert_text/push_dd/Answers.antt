use Rattle.jcl_convert.proofs.StepLemmas.{pushed}
use Rattle.jcl_convert.proofs.convert_text.push_dd.Goals as goal

pub returns : goal.returns
returns c = pushed c.push.result c.args.steps.now c.len-last.result c.item_mut.result.now c.push.new.self c.args.dd c.len-last.ensures c.item_mut.ensures.value c.push.ensures.ok
