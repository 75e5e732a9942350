use Rattle.spool_volumes.specs.Looks.{LooksAt}
use Rattle.warm_start.proofs.Spooling.{AreClean}
use Rattle.warm_start.proofs.spooled.sync_volumes.Given as goal

abbrev pub invariant-loop-volume : goal.invariant-loop-volume
invariant-loop-volume g l = record {
  looks : LooksAt g.P.Plant.tells 0 (g.P.Plant.view l.initial.plant) (g.P.Plant.view l.plant);
  clean : g.P.Plant.tells → AreClean (g.P.Plant.view l.plant) l.volume;
}
