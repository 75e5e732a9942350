-- What a plant shows that another one left.
use Rattle.std.specs.Prelude.{ℕ, ◌<◌, List, Option}
use Rattle.mas_types.specs.declared.ids.Dev.{Dev}
use Rattle.spool_plant.specs.declared.choice.Choice.{Choice}
use Rattle.spool_plant.specs.declared.plant.Part.TheVariants.{Disk as DiskPart}
use Rattle.spool_plant.specs.Acts.{top}
use Rattle.spool_disk.specs.Begins.{IsCrashed}
use Rattle.spool_plant.specs.View.{View, disk_now}
use Rattle.spool_volumes.specs.Volumes.{bytes_unless}
use Rattle.mas_complex.specs.Crash.{left_at, IsLeft}

-- the bytes of a device, or nothing of a lost one
abbrev pub shown_of : View → Dev → Option (List ℕ)
shown_of v dev = bytes_unless (v.lost (DiskPart dev)) (disk_now v dev).bytes

-- of each device a plant shows what a crash at a moment of another one may leave: an image, or nothing of one that was
-- lost then
abbrev pub IsLeftBy : ℕ → View → View → Type 0
IsLeftBy t old new = (dev : Dev) → IsLeft (left_at old t dev) (shown_of new dev)

-- a plant in memory shows after a crash what the crash may leave, at each moment except the greatest, at which acts may
-- fail while the world stays
abbrev pub CrashesLeave : Type 0
CrashesLeave = (choice : Choice) (t : ℕ) (old new : View) → t < top → IsCrashed choice t old new → IsLeftBy t old new
