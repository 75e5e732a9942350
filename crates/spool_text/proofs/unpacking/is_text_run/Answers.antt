use Rattle.spool_text.proofs.TextRuns.{run_from, run_not}
use Rattle.spool_text.proofs.unpacking.is_text_run.Goals as goal

pub returns-then-not-is_below : goal.returns-then-not-is_below
returns-then-not-is_below c = run_from c.args.at c.args.bytes.now c.requires c.if-not-is_below.true

pub returns-else-not-is_below : goal.returns-else-not-is_below
returns-else-not-is_below c = run_not c.args.at c.args.bytes.now c.requires c.if-not-is_below.false
