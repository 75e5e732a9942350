use Rattle.std.proofs.Common.{◌≡◌, ◌-◌, take, drop}
use Rattle.mas_types.specs.LinesLeft.{left_in}
use Rattle.jcl_convert.proofs.statements.part_of.Given as goal

abbrev pub invariant-loop-at : goal.invariant-loop-at
invariant-loop-at l = (l.part ≡ take (l._at - l.from) (drop l.from l.text)) × (left_in l.rest ≡ drop l._at l.text)
