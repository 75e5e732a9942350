use Rattle.std.proofs.Common.{take}
use Rattle.mas_check.proofs.GroupLemmas.{HaveRead}
use Rattle.mas_check.proofs.reading.read_groups.Given as goal

-- the groups so far were read
abbrev pub invariant-loop-i : goal.invariant-loop-i
invariant-loop-i g l = HaveRead g.P.Plant.tells (g.P.Plant.view l.fn.plant) (g.P.Plant.view l.plant) l.per (take l.i l.owners) l.groups
