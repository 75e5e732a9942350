use Rattle.member_acts.proofs.Names.{take, parts_of}
use Rattle.member_acts.proofs.ReadLemmas.{HaveRead}
use Rattle.member_acts.proofs.reading.read_text.Given as goal

-- the groups so far were read
abbrev pub invariant-loop-group : goal.invariant-loop-group
invariant-loop-group g l = HaveRead g.P.Plant l.by (parts_of l.initial.complex) (take l.group-index l.groups) l.lines l.gone (parts_of l.complex)
