use Rattle.std.proofs.Common.{suc, arith}
use Rattle.mas_types.proofs.walks.LinesFromIterator.next.Goals as goal

pub invariant_of-self : goal.invariant_of-self
invariant_of-self c = record { have = λ k less. rw c.first_line.ensures.behind (c.args.self.now.have (suc k) (omega (arith, less))) }
