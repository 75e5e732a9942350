use Rattle.std.proofs.Common.{◌∙◌, sym, ap, ℕ, List, [], ◌∷◌, ◌++◌}
use Rattle.mas_types.specs.Closings.{detail_line}
use Rattle.cmd_report.proofs.Pieces.{map-one_more}
use Rattle.cmd_report.proofs.lines.details.Goals as goal

pub loop-at-preserved : goal.loop-at-preserved
loop-at-preserved c =
    c.in_ok-push_detail.ensures ∙ ap (λ (ls : List (List ℕ)). ls ++ detail_line c.args.by c.args.step c.line.result.now ∷ []) c.loop-at.invariant
    ∙ sym (map-one_more (detail_line c.args.by c.args.step) c.args.shown.now c.loop-at.at c.line.result.now c.line.ensures)
