use Rattle.std.proofs.Common.{◌∙◌, ◌++◌, ◌∷◌, ℕ, List, [], take, sym, ap, append_assoc}
use Rattle.cmd_report.proofs.Pieces.{take-one_more}
use Rattle.queue_report.proofs.reports.push_lines.Goals as goal

pub loop-at-preserved : goal.loop-at-preserved
loop-at-preserved c =
    c.in_ok-push.ensures.ok
    ∙ ap (λ (ls : List (List ℕ)). ls ++ c.line.result.now ∷ []) c.loop-at.invariant
    ∙ append_assoc c.args.lines.now (take c.loop-at.at c.args.more.now) (c.line.result.now ∷ [])
    ∙ ap (λ (ls : List (List ℕ)). c.args.lines.now ++ ls) (sym (take-one_more c.args.more.now c.loop-at.at c.line.result.now c.line.ensures))
