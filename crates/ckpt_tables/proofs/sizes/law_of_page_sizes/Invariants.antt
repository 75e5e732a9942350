use Rattle.std.proofs.Common.{◌≡◌, ◌<◌, ℕ, length, get_or}
use Rattle.mas_types.specs.declared.ids.Page.{Page}
use Rattle.mas_types.specs.Limits.{page_bytes}
use Rattle.ckpt_tables.proofs.sizes.law_of_page_sizes.Given as goal

abbrev pub invariant-loop-page : goal.invariant-loop-page
invariant-loop-page l = (k : ℕ) (d : Page) → k < l.page-index → length (get_or l.pages k d).0 ≡ page_bytes
