use Rattle.queue_indexed.proofs.ToldUnits.{told}
use Rattle.queue_indexed.proofs.units.converting.Goals as goal

pub returns : goal.returns
returns c = λ Q tell. c.converting.ensures Q (told c.args.index.now c.args.tables.now Q c.requires tell)
