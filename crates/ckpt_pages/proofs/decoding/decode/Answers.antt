use Rattle.ckpt_pages.proofs.DecodingLemmas.{no_other}
use Rattle.ckpt_pages.proofs.decoding.decode.Goals as goal

pub returns-clause-only : goal.returns-clause-only
returns-clause-only c = no_other c.args.pages.now c.read_tables.result c.read_tables.ensures.found c.read_tables.ensures.bad
