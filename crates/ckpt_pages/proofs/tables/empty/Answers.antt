use Rattle.ckpt_pages.proofs.StartLemmas.{made_shape}
use Rattle.ckpt_pages.proofs.tables.empty.Goals as goal

pub returns-clause-shape : goal.returns-clause-shape
returns-clause-shape c =
    made_shape c.in_ok-config.field-0 c.args.config.now c.args.routes.now c.in_ok-repeated.field-0 c.in_ok-repeated-2.field-0 c.requires.config c.requires.routes
    c.in_ok-config.ensures.value c.in_ok-repeated.ensures c.in_ok-repeated-2.ensures
