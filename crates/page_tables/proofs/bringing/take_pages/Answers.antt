use Rattle.page_tables.proofs.bringing.take_pages.Goals as goal

pub loop-number-preserved : goal.loop-number-preserved
loop-number-preserved c = c.take_newer.ensures c.args.tables.now c.loop-number.invariant
