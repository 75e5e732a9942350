use Rattle.std.proofs.Common.{◌≡◌, ◌∙◌, List, length, ap, ap₂, sym, slice_set, slice_index_or}
use Rattle.std.proofs.lemmas.List.Elements.{All-set}
use Rattle.mas_types.specs.declared.ids.Page.{Page}
use Rattle.mas_types.specs.Limits.{page_bytes}
use Rattle.member_node.proofs.RedrawLemmas.{drawn_again_more, page_with}
use Rattle.member_node.proofs.checkpoint.draw_pages.Goals as goal

pub loop-number-preserved : goal.loop-number-preserved
loop-number-preserved c = (
  ap₂ (λ (pages : List Page) (page : Page). slice_set pages (slice_index_or c.args.numbers.now c.loop-number.number-index 0) page) c.loop-number.invariant.0 (ap page_with c.encode_page.ensures.spelled)
      ∙ sym (drawn_again_more c.args.tables.now c.args.levels.now c.args.numbers.now c.loop-number.number-index c.args.pages.now c.loop-number-test.true),
  All-set (λ (page : Page). length page.0 ≡ page_bytes) c.loop-number.pages (slice_index_or c.args.numbers.now c.loop-number.number-index 0) c.encode_page.new.into c.encode_page.ensures.sized c.loop-number.invariant.1,
)
