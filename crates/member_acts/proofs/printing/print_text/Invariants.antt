use Rattle.member_acts.proofs.Names.{parts_of}
use Rattle.member_acts.specs.Prints.{upto}
use Rattle.member_acts.proofs.InkedLemmas.{HaveLines}
use Rattle.member_acts.proofs.printing.print_text.Given as goal

abbrev pub invariant-loop-before : goal.invariant-loop-before
invariant-loop-before g l = HaveLines g.P.Plant l.by (upto l.output l.last) l.text (parts_of l.fn.complex) l.before (parts_of l.complex)
