use Rattle.std.proofs.Common.{false, take}
use Rattle.spool_volumes.specs.Looks.{SparesOthers}
use Rattle.spool_volumes.proofs.ReadLemmas.{HaveRead}
use Rattle.spool_volumes.proofs.reading.read_text.Given as goal

-- the records of the groups so far are the lines, and nothing was done beside
abbrev pub invariant-loop-group : goal.invariant-loop-group
invariant-loop-group g l =
    HaveRead g.P.Plant.tells l.by.0 (g.P.Plant.view l.initial.plant) (g.P.Plant.view l.plant) l.per (take l.group-index l.groups) l.lines
    × SparesOthers l.by.0 l.per l.groups false (g.P.Plant.view l.initial.plant) (g.P.Plant.view l.plant)
