use Rattle.std.proofs.Common.{◌≡◌, ℕ, length, slice_index, false}
use Rattle.spool_plant.specs.View.{disk_now}
use Rattle.spool_plant.specs.declared.plant.Act.TheVariants.{Done}
use Rattle.spool_plant.specs.declared.plant.Part.TheVariants.{Disk as DiskPart}
use Rattle.ckpt_copy.specs.Causes.{Caused}
use Rattle.ckpt_copy.specs.Changes.{NoMore}
use Rattle.ckpt_copy.specs.Meanwhile.{Meanwhile}
use Rattle.ckpt_copy.specs.Pages.{bytes_of}
use Rattle.change_log.specs.Logs.{gathered, block}
use Rattle.change_log.proofs.finding.read_pages.Given as goal

abbrev pub invariant-loop-place : goal.invariant-loop-place
invariant-loop-place g l = record {
  cause : Caused l.by.0 l.dev (g.P.Plant.view l.fn.plant) (g.P.Plant.view l.plant) Done;
  there : (g.P.Plant.view l.fn.plant).lost (DiskPart l.dev) ≡ false → (g.P.Plant.view l.plant).lost (DiskPart l.dev) ≡ false;
  during : g.P.Plant.tells → Meanwhile l.dev (NoMore (disk_now (g.P.Plant.view l.fn.plant) l.dev)) (g.P.Plant.view l.fn.plant) (g.P.Plant.view l.plant);
  same : g.P.Plant.tells → disk_now (g.P.Plant.view l.plant) l.dev ≡ disk_now (g.P.Plant.view l.fn.plant) l.dev;
  many : length l.pages ≡ l.place;
  read : g.P.Plant.tells → bytes_of l.pages ≡ gathered l.place (λ (p : ℕ). block (slice_index l.places p) (disk_now (g.P.Plant.view l.fn.plant) l.dev).bytes);
}
