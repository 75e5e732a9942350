use Rattle.std.proofs.Common.{ℕ, ◌<◌}
use Rattle.ckpt_tables.specs.Pages.{page_in}
use Rattle.page_tables.specs.Bringing.{IsNewer, IsReadable, order_in}
use Rattle.page_tables.proofs.bringing.are_readable.Given as goal

abbrev pub invariant-loop-page : goal.invariant-loop-page
invariant-loop-page l = (p : ℕ) → p < l.page → IsNewer l.marks.pages l.pages p → IsReadable l.config (order_in (page_in l.pages 0)) (page_in l.pages p) p
