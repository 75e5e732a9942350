-- Acts on the spool volumes: where a group's page lies, and which groups a member may write.
use Rattle.mas_complex.specs.Names.{MemberId, GroupNo, Dev, Spool, Page, Config, Queue, page_bytes, View, Act, Reads, Writes, volume_of, start_of}
use Rattle.std.specs.Prelude.{◌≡◌, ◌⊎◌, ℕ, ◌+◌, ◌*◌, ◌≤◌, ◌<◌, nat_le, Bool, List, [], Some, slice_get, if◌then◌else◌}
use Rattle.mas_types.specs.declared.queues.Owner.TheVariants as owner

-- the volume of the stream of jobs that were offloaded
abbrev pub stream_volume : ℕ
stream_volume = 8

-- the group is one of the configuration
abbrev pub IsGroupOf : Config → GroupNo → Type 0
IsGroupOf config group = group.0 < config.volumes * config.groups

-- the volume is one of the configuration, or that of the stream
abbrev pub IsVolumeOf : Config → ℕ → Type 0
IsVolumeOf config volume = ((1 ≤ volume) × (volume ≤ config.volumes)) ⊎ (volume ≡ stream_volume)

-- the group is the member's
abbrev pub IsHeldBy : MemberId → GroupNo → Queue → Type 0
IsHeldBy by group Q = slice_get Q.owners group.0 ≡ Some (owner.Member by)

-- the device on which a group lies, where each volume has so many groups
abbrev pub device_of : ℕ → GroupNo → Dev
device_of per group = Spool (volume_of per group)

-- the group's page lies within its volume
abbrev pub is_within : View → ℕ → GroupNo → Bool
is_within v per group = nat_le (start_of per group + page_bytes) (v.size (device_of per group))

-- Where an act on a page goes, and with which bytes: on a volume that is too small for the page, from 0 on with no
-- bytes.
abbrev pub page_start : Bool → ℕ → ℕ
page_start within start = if within then start else 0

abbrev pub page_part : Bool → List ℕ → List ℕ
page_part within bytes = if within then bytes else []

-- the page of a group is read
abbrev pub ReadsGroup : ℕ → GroupNo → View → View → Page → Act → Type 0
ReadsGroup per group old new into result =
    Reads (device_of per group) (page_start (is_within old per group) (start_of per group)) old new
    (page_part (is_within old per group) into.0) result

-- the page of a group is written
abbrev pub WritesGroup : ℕ → GroupNo → View → View → Page → Act → Type 0
WritesGroup per group old new bytes result =
    Writes (device_of per group) (page_start (is_within old per group) (start_of per group))
    (page_part (is_within old per group) bytes.0) old new result
