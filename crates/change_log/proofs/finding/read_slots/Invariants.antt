use Rattle.std.proofs.Common.{◌≡◌, false}
use Rattle.spool_plant.specs.View.{disk_now}
use Rattle.spool_plant.specs.declared.plant.Act.TheVariants.{Done}
use Rattle.spool_plant.specs.declared.plant.Part.TheVariants.{Disk as DiskPart}
use Rattle.ckpt_copy.specs.Causes.{Caused}
use Rattle.ckpt_copy.specs.Changes.{NoMore}
use Rattle.ckpt_copy.specs.Meanwhile.{Meanwhile}
use Rattle.change_log.specs.Logs.{gates_in}
use Rattle.change_log.specs.LogRests.{AreInside}
use Rattle.change_log.specs.LogFound.{ArePlacedUp}
use Rattle.change_log.proofs.finding.read_slots.Given as goal

abbrev pub invariant-loop-slot : goal.invariant-loop-slot
invariant-loop-slot g l = record {
  cause : Caused l.by.0 l.dev (g.P.Plant.view l.fn.plant) (g.P.Plant.view l.plant) Done;
  there : (g.P.Plant.view l.fn.plant).lost (DiskPart l.dev) ≡ false → (g.P.Plant.view l.plant).lost (DiskPart l.dev) ≡ false;
  during : g.P.Plant.tells → Meanwhile l.dev (NoMore (disk_now (g.P.Plant.view l.fn.plant) l.dev)) (g.P.Plant.view l.fn.plant) (g.P.Plant.view l.plant);
  same : g.P.Plant.tells → disk_now (g.P.Plant.view l.plant) l.dev ≡ disk_now (g.P.Plant.view l.fn.plant) l.dev;
  inside : AreInside l.head.pages l.places;
  placed : g.P.Plant.tells → l.head.gates ≡ gates_in (disk_now (g.P.Plant.view l.fn.plant) l.dev).bytes
      → ArePlacedUp l.head.pages l.slot l.places (disk_now (g.P.Plant.view l.fn.plant) l.dev).bytes;
}
