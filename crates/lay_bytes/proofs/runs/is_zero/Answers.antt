use Rattle.std.proofs.Common.{◌∙◌, sym, arith}
use Rattle.lay_bytes.proofs.RunLemmas.{zeros_more, zeros_end}
use Rattle.lay_bytes.proofs.runs.is_zero.Goals as goal

pub loop-at-preserved : goal.loop-at-preserved
loop-at-preserved c = (
  omega arith,
  zeros_more c.loop-at.at c.args.bytes.now (sym c.is_zero_run.ensures ∙ c.if-not-is_zero_run.false) c.loop-at.invariant.1,
)

pub returns-then-not-is_zero_run : goal.returns-then-not-is_zero_run
returns-then-not-is_zero_run c = zeros_end c.loop-at.at c.args.bytes.now (sym c.is_zero_run.ensures ∙ c.if-not-is_zero_run.true) c.loop-at.invariant.1
