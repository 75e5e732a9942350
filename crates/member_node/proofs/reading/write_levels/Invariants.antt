use Rattle.std.proofs.Common.{◌≡◌, length, take}
use Rattle.ckpt_pages.specs.Given.{levels_in}
use Rattle.ckpt_tables.specs.Pages.{page_in}
use Rattle.member_node.proofs.reading.write_levels.Given as goal

abbrev pub invariant-loop-page : goal.invariant-loop-page
invariant-loop-page l = record {
  many : length l.levels ≡ length l.fn.levels;
  taken : take l.page l.levels ≡ levels_in (page_in l.pages 0) l.page;
}
