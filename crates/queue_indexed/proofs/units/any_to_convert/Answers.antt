use Rattle.queue_indexed.proofs.ToldUnits.{told}
use Rattle.queue_indexed.proofs.units.any_to_convert.Goals as goal

pub returns : goal.returns
returns c = λ Q tell. c.any_convert.ensures Q (told c.args.index.now c.args.tables.now Q c.requires tell)
