use Rattle.std.proofs.Common.{ℕ, List}
use Rattle.spool_plant.specs.View.{disk_now}
use Rattle.spool_plant.specs.declared.plant.Act.TheVariants.{Done}
use Rattle.ckpt_copy.specs.Causes.{Caused}
use Rattle.ckpt_copy.specs.Meanwhile.{Meanwhile}
use Rattle.ckpt_copy.specs.Reading.{AllRead}
use Rattle.change_log.specs.Logs.{reads}
use Rattle.change_log.specs.LogStates.{AreHome}
use Rattle.change_log.specs.LogRests.{Rests, Closing}
use Rattle.change_log.proofs.writing.close_slots.Given as goal

abbrev pub invariant-loop-slot : goal.invariant-loop-slot
invariant-loop-slot g l = record {
  cause : Caused l.by.0 l.dev (g.P.Plant.view l.fn.plant) (g.P.Plant.view l.plant) Done;
  during : g.P.Plant.tells → (n : ℕ) → (places pages : List ℕ) → Rests n l.gates places pages (disk_now (g.P.Plant.view l.fn.plant) l.dev) → AreHome n pages (disk_now (g.P.Plant.view l.fn.plant) l.dev)
      → Meanwhile l.dev (AllRead reads pages) (g.P.Plant.view l.fn.plant) (g.P.Plant.view l.plant);
  closing : g.P.Plant.tells → (n : ℕ) → (places pages : List ℕ) → Rests n l.gates places pages (disk_now (g.P.Plant.view l.fn.plant) l.dev) → AreHome n pages (disk_now (g.P.Plant.view l.fn.plant) l.dev)
      → Closing n l.gates l.slot pages (disk_now (g.P.Plant.view l.plant) l.dev);
}
