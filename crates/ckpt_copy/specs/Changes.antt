-- What acts do to a device.
use Rattle.std.specs.Prelude.{◌≡◌, ℕ, false, List, []}
use Rattle.spool_plant.specs.View.{Disk, Stretch, Apart, Avoids, slice}
use Rattle.spool_plant.specs.Acts.{DiffersIn}

-- Only bytes of this stretch differ, what avoided the unsynced stretches still does, apart from it, and a lost device
-- doesn't come back.
pub record Spreads (at len : ℕ) (old new : Disk) : Type 0 where
  pub differs : DiffersIn at len old.bytes new.bytes
  pub unsynced : (s : Stretch) → Apart (record { from = at; len = len }) s → Avoids old.unsynced s
      → Avoids new.unsynced s
  pub there : new.lost ≡ false → old.lost ≡ false

-- No byte differs, nothing more is unsynced, and a lost device doesn't come back: so each image is one of before.
pub record NoMore (old new : Disk) : Type 0 where
  pub bytes : new.bytes ≡ old.bytes
  pub unsynced : (s : Stretch) → Avoids old.unsynced s → Avoids new.unsynced s
  pub there : new.lost ≡ false → old.lost ≡ false

-- these bytes are there, and nothing is unsynced
pub record IsPut (at len : ℕ) (bytes : List ℕ) (disk : Disk) : Type 0 where
  pub there : slice at len disk.bytes ≡ bytes
  pub synced : disk.unsynced ≡ []

-- these bytes were read there, and the device is as it was
pub record IsRead (at len : ℕ) (bytes : List ℕ) (old new : Disk) : Type 0 where
  pub same : new ≡ old
  pub read : bytes ≡ slice at len old.bytes
