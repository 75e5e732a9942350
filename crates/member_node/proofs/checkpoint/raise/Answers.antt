use Rattle.std.proofs.Common.{◌∙◌, ℕ, List, ap, slice_set, slice_index_or, sym}
use Rattle.member_node.proofs.DrawnLemmas.{raised_more}
use Rattle.member_node.proofs.checkpoint.raise.Goals as goal

pub loop-page-preserved : goal.loop-page-preserved
loop-page-preserved c =
    ap (λ (l : List ℕ). slice_set l (slice_index_or c.args.pages.now c.loop-page.page-index 0) c.args.level) c.loop-page.invariant
    ∙ sym (raised_more c.args.pages.now c.loop-page.page-index c.args.level c.args.levels.now c.loop-page-test.true)
