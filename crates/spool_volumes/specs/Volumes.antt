-- Where groups lie on the spool volumes.
use Rattle.std.specs.Prelude.{◌≡◌, ℕ, ◌+◌, ◌*◌, ◌/◌, ◌%◌, ◌≤◌, Bool, true, false, List, Option, Some, None, option_map}
use Rattle.mas_types.specs.declared.ids.GroupNo.{GroupNo}
use Rattle.mas_types.specs.declared.queues.Config.{Config}
use Rattle.mas_types.specs.declared.ids.Dev.{Dev}
use Rattle.mas_types.specs.declared.ids.Dev.TheVariants.{Spool}
use Rattle.mas_types.specs.Limits.{page_bytes}
use Rattle.spool_plant.specs.declared.plant.Part.TheVariants.{Disk as DiskPart}
use Rattle.spool_plant.specs.View.{View, disk_now, slice}

-- what is left of each volume, by its number counted from 1: its bytes, or nothing of a lost one
abbrev pub Volumes : Type 0
Volumes = ℕ → Option (List ℕ)

-- the volume on which a group lies, where each volume has so many groups
abbrev pub volume_of : ℕ → GroupNo → ℕ
volume_of per g = g.0 / per + 1

-- where the group's page begins on its volume
abbrev pub start_of : ℕ → GroupNo → ℕ
start_of per g = page_bytes * (g.0 % per)

-- the page of a group, None where its volume is lost
abbrev pub page_of : Volumes → ℕ → GroupNo → Option (List ℕ)
page_of volumes per g = option_map (slice (start_of per g) page_bytes) (volumes (volume_of per g))

abbrev pub bytes_unless : Bool → List ℕ → Option (List ℕ)
bytes_unless true bytes = None
bytes_unless false bytes = Some bytes

-- what a plant now has of each volume
abbrev pub volumes_now : View → Volumes
volumes_now v n = bytes_unless (v.lost (DiskPart (Spool n))) (disk_now v (Spool n)).bytes

-- a group's page lies within its volume, unless that is lost
pub record IsPlaced (v : View) (per : ℕ) (g : GroupNo) : Type 0 where
  pub volume : volume_of per g ≤ 255
  pub within : v.lost (DiskPart (Spool (volume_of per g))) ≡ false
      → start_of per g + page_bytes ≤ v.size (Spool (volume_of per g))

-- each volume of the configuration that isn't lost has the size that its groups need
abbrev pub AreRoomy : View → Config → Type 0
AreRoomy v config = (n : ℕ) → 1 ≤ n → n ≤ config.volumes → v.lost (DiskPart (Spool n)) ≡ false
    → page_bytes * config.groups ≤ v.size (Spool n)

-- no volume was lost in between
abbrev pub IsSteady : View → View → Type 0
IsSteady old new = (n : ℕ) → new.lost (DiskPart (Spool n)) ≡ old.lost (DiskPart (Spool n))

-- no byte of a device has changed
abbrev pub AreSame : View → View → Type 0
AreSame old new = (d : Dev) → (disk_now new d).bytes ≡ (disk_now old d).bytes
