-- Reads and syncs, one after another.
use Rattle.std.proofs.Common.{◌∙◌, arith, inl}
use Rattle.mas_types.specs.declared.ids.Dev.{Dev}
use Rattle.spool_plant.specs.View.{View, Disk, disk_now}
use Rattle.ckpt_copy.specs.Changes.{Spreads, NoMore}
use Rattle.ckpt_copy.specs.Meanwhile.{Meanwhile}
use Rattle.ckpt_copy.specs.Moments.{meanwhile_then, meanwhile_weaker, meanwhile_end}

no_more_then : (old mid new : Disk) → NoMore old mid → NoMore mid new → NoMore old new
no_more_then old mid new first then = record {
  bytes = then.bytes ∙ first.bytes;
  unsynced = λ s avoids. then.unsynced s (first.unsynced s avoids);
  there = λ t. first.there (then.there t);
}

pub calm_on : (dev : Dev) (old mid new : View) → Meanwhile dev (NoMore (disk_now old dev)) old mid → Meanwhile dev (NoMore (disk_now mid dev)) mid new → Meanwhile dev (NoMore (disk_now old dev)) old new
calm_on dev old mid new first then =
    let so_far = meanwhile_end dev (NoMore (disk_now old dev)) old mid first in
    meanwhile_then dev (NoMore (disk_now old dev)) old mid new first
    (meanwhile_weaker dev (NoMore (disk_now mid dev)) (NoMore (disk_now old dev)) mid new then (λ d n. no_more_then (disk_now old dev) (disk_now mid dev) d so_far n))

calm_sync : (old new : Disk) → Spreads 0 0 old new → NoMore old new
calm_sync old new spreads = record { bytes = spreads.differs.after; unsynced = λ s avoids. spreads.unsynced s (inl (omega arith)) avoids; there = spreads.there }

pub calm_first : (dev : Dev) (old new : View) → Meanwhile dev (Spreads 0 0 (disk_now old dev)) old new → Meanwhile dev (NoMore (disk_now old dev)) old new
calm_first dev old new so = meanwhile_weaker dev (Spreads 0 0 (disk_now old dev)) (NoMore (disk_now old dev)) old new so (λ d s. calm_sync (disk_now old dev) d s)
