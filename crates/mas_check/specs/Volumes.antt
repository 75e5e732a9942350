-- What the groups of a checkpoint hold on the spool volumes.
use Rattle.std.specs.Prelude.{◌≡◌, ℕ, ◌+◌, nat_le, Bool, false, ◌&&◌, if◌then◌else◌, List, [], ◌∷◌, length, Option, Some, None, option_map}
use Rattle.mas_types.specs.declared.ids.Dev.TheVariants.{Spool}
use Rattle.mas_types.specs.declared.ids.GroupNo.{GroupNo}
use Rattle.mas_types.specs.declared.queues.Owner.{Owner}
use Rattle.mas_types.specs.Limits.{page_bytes}
use Rattle.mas_types.specs.Records.{records_in}
use Rattle.spool_plant.specs.declared.plant.Part.TheVariants.{Disk as DiskPart}
use Rattle.spool_plant.specs.View.{View, disk_now, slice}
use Rattle.spool_volumes.specs.Volumes.{volume_of, start_of}
use Rattle.mas_check.specs.declared.groups.Group.{Group}
use Rattle.mas_check.specs.Groups.{has_text}

abbrev pub group_at : ℕ → GroupNo
group_at g = record { 0 = g }

-- the number of records on a group's page, where each volume has so many groups. None where the page holds none, or
-- doesn't lie within its volume
abbrev pub records_at : View → ℕ → ℕ → Option ℕ
records_at v per g =
    if nat_le (start_of per (group_at g) + page_bytes) (v.size (Spool (volume_of per (group_at g))))
    then option_map length (records_in
    (slice (start_of per (group_at g)) page_bytes (disk_now v (Spool (volume_of per (group_at g)))).bytes))
    else None

-- the volume on which a group lies is lost
abbrev pub is_lost_at : View → ℕ → ℕ → Bool
is_lost_at v per g = v.lost (DiskPart (Spool (volume_of per (group_at g))))

-- unless its volume is lost after a call, these are the records on the group's page
abbrev pub AreRecords : Type 0 → View → View → ℕ → ℕ → Option ℕ → Type 0
AreRecords tells old new per g records =
    tells → is_lost_at new per g ≡ false → records ≡ records_at old per g

-- the groups of these owners, counted from `at`, with what they hold
abbrev pub groups_from : View → ℕ → ℕ → List Owner → List Group
groups_from v per at [] = []
groups_from v per at (o ∷ owners) =
    record { owner = o; records = if has_text o then records_at v per at else None }
    ∷ groups_from v per (at + 1) owners

abbrev pub groups_on : View → ℕ → List Owner → List Group
groups_on v per owners = groups_from v per 0 owners

-- The volume of the first group of a text that lies on a lost one. Volumes have their groups in ascending order, so it
-- is the least such volume.
abbrev pub lost_from : View → ℕ → ℕ → List Owner → Option ℕ
lost_from v per at [] = None
lost_from v per at (o ∷ owners) =
    if has_text o && is_lost_at v per at then Some (volume_of per (group_at at))
    else lost_from v per (at + 1) owners

abbrev pub lost_volume : View → ℕ → List Owner → Option ℕ
lost_volume v per owners = lost_from v per 0 owners

-- unless a group of a text among them lies on a volume that is lost after a call, the groups of these
-- owners from `at` on are these
abbrev pub AreGroups : Type 0 → View → View → ℕ → ℕ → List Owner → List Group → Type 0
AreGroups tells old new per at owners groups =
    tells → lost_from new per at owners ≡ None → groups_from old per at owners ≡ groups
