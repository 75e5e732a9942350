use Rattle.std.proofs.Common.{◌∙◌, Bool, List, ap, slice_index_or, sym}
use Rattle.page_marks.specs.Marks.{marked}
use Rattle.member_node.proofs.MirrorLemmas.{marked_more}
use Rattle.member_node.proofs.marking.mark_each.Goals as goal

pub loop-page-preserved : goal.loop-page-preserved
loop-page-preserved c =
    c.put.ensures ∙ ap (λ (m : List Bool). marked (slice_index_or c.args.pages.now c.loop-page.page-index 0) m) c.loop-page.invariant
    ∙ sym (marked_more c.args.pages.now c.loop-page.page-index c.args.marks.now.pages c.loop-page-test.true)
