use Rattle.std.proofs.Common.{◌≡◌, drop}
use Rattle.mas_check.specs.Volumes.{lost_from}
use Rattle.mas_check.proofs.reading.lost_volume.Given as goal

abbrev pub invariant-loop-i : goal.invariant-loop-i
invariant-loop-i g l = lost_from (g.P.Plant.view l.plant) l.per l.i (drop l.i l.owners) ≡ lost_from (g.P.Plant.view l.plant) l.per 0 l.owners
