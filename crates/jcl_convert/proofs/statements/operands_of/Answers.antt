use Rattle.card_reader.proofs.Fronts.{rest_from}
use Rattle.jcl_convert.proofs.statements.operands_of.Goals as goal

pub returns-clause-value : goal.returns-clause-value
returns-clause-value c = rw (rest_from c.args.at c.args.text.now c.args.card.now c.requires) at c.operands_at.ensures.value
