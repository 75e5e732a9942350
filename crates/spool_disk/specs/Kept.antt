-- What a record keeps.
use Rattle.std.specs.Prelude.{◌≡◌, ℕ, ◌<◌, false, List, [], Vec}
use Rattle.std.specs.declared.alloc.Global.{Global}
use Rattle.spool_disk.specs.declared.base.Base.{Base}
use Rattle.spool_plant.specs.View.{Disk}
use Rattle.spool_disk.specs.Sizes.{size_in}
use Rattle.spool_disk.specs.Standing.{bytes_at}
use Rattle.spool_disk.specs.Deeds.{Deed, after}

abbrev pub size_at : Base → ℕ → ℕ
size_at base slot = size_in base.sizes slot

-- a device as it was at first
abbrev pub fresh : Base → ℕ → Disk
fresh base slot = record { bytes = bytes_at base.start.items slot; unsynced = []; lost = false }

-- the present bytes are what the acts come to
abbrev pub AreCurrent : Base → List (Vec ℕ Global) → List Deed → Type 0
AreCurrent base disks deeds = (slot : ℕ) → slot < 258 → bytes_at disks slot ≡ (after slot (fresh base slot) deeds).bytes
