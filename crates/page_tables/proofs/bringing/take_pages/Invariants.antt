use Rattle.page_tables.specs.Bringing.{IsUpBefore}
use Rattle.page_tables.proofs.bringing.take_pages.Given as goal

abbrev pub invariant-loop-number : goal.invariant-loop-number
invariant-loop-number l = IsUpBefore l.fn.tables l.pages l.marks.pages l.number l.tables
