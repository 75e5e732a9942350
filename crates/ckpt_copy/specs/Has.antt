-- What each crash at a moment leaves of a stretch.
use Rattle.std.specs.Prelude.{◌≡◌, ℕ, List}
use Rattle.spool_plant.specs.View.{Disk, Avoids, slice}

-- The device has these bytes there, all of them synced.
pub record Has (at len : ℕ) (bytes : List ℕ) (disk : Disk) : Type 0 where
  pub there : slice at len disk.bytes ≡ bytes
  pub sure : Avoids disk.unsynced (record { from = at; len = len })
