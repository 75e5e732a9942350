use Rattle.card_reader.proofs.Fronts.{body_cut}
use Rattle.card_reader.proofs.cards.body.Goals as goal

pub returns : goal.returns
returns c = body_cut c.args.card.now c.min.result c.min.ensures
