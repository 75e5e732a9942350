use Rattle.std.proofs.Common.{◌≡◌, ◌*◌, Bool, List, take, length}
use Rattle.mas_types.specs.Limits.{page_bytes}
use Rattle.spool_plant.specs.View.{disk_now}
use Rattle.spool_plant.specs.declared.plant.Act.TheVariants.{Done}
use Rattle.ckpt_copy.specs.Causes.{Caused}
use Rattle.ckpt_copy.specs.Meanwhile.{Meanwhile}
use Rattle.ckpt_copy.specs.Pages.{bytes_of}
use Rattle.change_log.specs.LogRests.{Rests, AreWritten}
use Rattle.change_log.proofs.writing.write_homes.Given as goal

abbrev pub invariant-loop-i : goal.invariant-loop-i
invariant-loop-i g l = record {
  sized : length (bytes_of (take l.i l.pages)) ≡ page_bytes * l.i;
  cause : Caused l.by.0 l.dev (g.P.Plant.view l.fn.plant) (g.P.Plant.view l.plant) Done;
  during : g.P.Plant.tells → (gates : List Bool) → Rests (length l.pages) gates l.places (bytes_of l.pages) (disk_now (g.P.Plant.view l.fn.plant) l.dev)
      → Meanwhile l.dev (Rests (length l.pages) gates l.places (bytes_of l.pages)) (g.P.Plant.view l.fn.plant) (g.P.Plant.view l.plant);
  written : g.P.Plant.tells → (gates : List Bool) → Rests (length l.pages) gates l.places (bytes_of l.pages) (disk_now (g.P.Plant.view l.fn.plant) l.dev)
      → AreWritten l.i (bytes_of l.pages) (disk_now (g.P.Plant.view l.plant) l.dev).bytes;
}
