use Rattle.std.proofs.Common.{◌≡◌}
use Rattle.ckpt_pages.specs.Given.{levels_in}
use Rattle.ckpt_tables.specs.Pages.{page_in}
use Rattle.ckpt_pages.proofs.levels.levels_of.Given as goal

abbrev pub invariant-loop-page : goal.invariant-loop-page
invariant-loop-page l = l.levels ≡ levels_in (page_in l.pages 0) l.page
