use Rattle.std.proofs.Common.{◌≡◌, ◌+◌, ◌*◌, take, length}
use Rattle.spool_plant.specs.View.{disk_now, slice}
use Rattle.spool_plant.specs.declared.plant.Act.TheVariants.{Done}
use Rattle.mas_types.specs.Limits.{page_bytes}
use Rattle.ckpt_copy.specs.Causes.{Caused}
use Rattle.ckpt_copy.specs.Changes.{Spreads}
use Rattle.ckpt_copy.specs.Meanwhile.{Meanwhile}
use Rattle.ckpt_copy.specs.Pages.{bytes_of}
use Rattle.ckpt_copy.proofs.acts.write_each.Given as goal

abbrev pub invariant-loop-page : goal.invariant-loop-page
invariant-loop-page g l = record {
  place : l.at ≡ l.start + page_bytes * l.page-index;
  cause : Caused l.by.0 l.dev (g.P.Plant.view l.fn.plant) (g.P.Plant.view l.plant) Done;
  during : g.P.Plant.tells → Meanwhile l.dev (Spreads l.start (page_bytes * length l.pages) (disk_now (g.P.Plant.view l.fn.plant) l.dev)) (g.P.Plant.view l.fn.plant) (g.P.Plant.view l.plant);
  put : g.P.Plant.tells → slice l.start (page_bytes * l.page-index) (disk_now (g.P.Plant.view l.plant) l.dev).bytes ≡ bytes_of (take l.page-index l.pages);
}
