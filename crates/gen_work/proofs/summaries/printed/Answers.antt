use Rattle.std.proofs.Common.{◌∙◌, ◌+◌, ap, ℕ, [], arith}
use Rattle.gen_work.specs.declared.summaries.Counted.TheVariants as counted
use Rattle.gen_work.specs.Summaries.{printed_behind}
use Rattle.gen_work.proofs.Sums.{printed_more}
use Rattle.gen_work.proofs.summaries.printed.Goals as goal

pub loop-at-preserved : goal.loop-at-preserved
loop-at-preserved c =
    printed_more c.args.all.now c.loop-at.at counted.Begun c.loop-at.lines _ (printed_behind [] c.args.all.now) (omega arith) (c.in_ok-lines.ensures ∙ ap (λ (n : ℕ). c.loop-at.lines + n) c.printed_by.ensures) c.loop-at.invariant
