use Rattle.std.proofs.Common.{nat_le, nat_lt, ◌&&◌}
use Rattle.page_marks.proofs.MarkLemmas.{MarksSome}
use Rattle.page_marks.proofs.marks.Marks.put_from.Given as goal

abbrev pub invariant-loop-page : goal.invariant-loop-page
invariant-loop-page l = MarksSome (λ p. nat_le l.first p && nat_lt p l.end) l.page l.initial.self.pages l.self.pages
