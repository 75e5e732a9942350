-- What a run leaves of the spool volumes.
use Rattle.std.specs.Prelude.{ℕ}
use Rattle.mas_types.specs.declared.ids.Dev.TheVariants.{Spool}
use Rattle.spool_plant.specs.View.{View, Throughout, disk_at, disk_now}
use Rattle.ckpt_copy.specs.Changes.{NoMore}

-- at each moment up to this one no byte of a volume has changed, and nothing more of it is unsynced: a warm start syncs
-- the volumes
abbrev pub AreVolumesKeptUntil : ℕ → View → View → Type 0
AreVolumesKeptUntil until old new = Throughout old.now until
    (λ t. (n : ℕ) → NoMore (disk_now old (Spool n)) (disk_at new t (Spool n)))

abbrev pub AreVolumesKept : View → View → Type 0
AreVolumesKept old new = AreVolumesKeptUntil new.now old new
