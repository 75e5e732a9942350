use Rattle.std.proofs.Common.{◌∙◌, sym, arith}
use Rattle.spool_text.proofs.TextRuns.{text_more, text_end}
use Rattle.spool_text.proofs.unpacking.is_text.Goals as goal

pub loop-at-preserved : goal.loop-at-preserved
loop-at-preserved c = (
  omega arith,
  text_more c.loop-at.at c.args.bytes.now (sym c.is_text_run.ensures ∙ c.if-not-is_text_run.false) c.loop-at.invariant.1,
)

pub returns-then-not-is_text_run : goal.returns-then-not-is_text_run
returns-then-not-is_text_run c = text_end c.loop-at.at c.args.bytes.now (sym c.is_text_run.ensures ∙ c.if-not-is_text_run.true) c.loop-at.invariant.1
