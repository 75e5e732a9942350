use Rattle.ckpt_pages.proofs.TestingLemmas.{LevelsTo}
use Rattle.page_tables.proofs.header.are_levels.Given as goal

abbrev pub invariant-loop-page : goal.invariant-loop-page
invariant-loop-page l = LevelsTo l.level l.page l.bytes
