use Rattle.std.proofs.Common.{◌≡◌, ℕ, ◌+◌, ◌*◌, ◌≤◌, ◌<◌, take, length, slice_index}
use Rattle.mas_types.specs.Limits.{page_bytes}
use Rattle.spool_plant.specs.View.{disk_now}
use Rattle.spool_plant.specs.declared.plant.Act.TheVariants.{Done}
use Rattle.ckpt_copy.specs.Causes.{Caused}
use Rattle.ckpt_copy.specs.Changes.{Spreads}
use Rattle.ckpt_copy.specs.Meanwhile.{Meanwhile}
use Rattle.ckpt_copy.specs.Pages.{bytes_of, page_in}
use Rattle.change_log.specs.Logs.{block}
use Rattle.change_log.proofs.writing.write_images.Given as goal

abbrev pub invariant-loop-i : goal.invariant-loop-i
invariant-loop-i g l = record {
  few : l.count ≤ length l.changed;
  ahead : l.count < length l.changed → l.i ≤ slice_index l.changed l.count;
  sized : length (bytes_of (take l.i l.pages)) ≡ page_bytes * l.i;
  cause : Caused l.by.0 l.dev (g.P.Plant.view l.fn.plant) (g.P.Plant.view l.plant) Done;
  during : g.P.Plant.tells → Meanwhile l.dev (Spreads (page_bytes * l.first) (page_bytes * length l.changed) (disk_now (g.P.Plant.view l.fn.plant) l.dev)) (g.P.Plant.view l.fn.plant) (g.P.Plant.view l.plant);
  put : g.P.Plant.tells → (k : ℕ) → k < l.count → block (l.first + k) (disk_now (g.P.Plant.view l.plant) l.dev).bytes ≡ page_in (slice_index l.changed k) (bytes_of l.pages);
}
