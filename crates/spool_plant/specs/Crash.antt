-- What a crash leaves of a device, by choice.
use Rattle.std.specs.Prelude.{◌≡◌, ℕ, suc, zero, ◌+◌, ◌<◌, nat_le, nat_lt, ◌&&◌, ◌||◌, if◌then◌else◌, Bool, false, List, [], ◌∷◌, length, slice_index}
use Rattle.mas_types.specs.declared.ids.Dev.{Dev}
use Rattle.spool_plant.specs.declared.choice.Choice.{Choice}
use Rattle.spool_plant.specs.declared.choice.Choice.TheVariants.{Old, New, Ones}
use Rattle.spool_plant.specs.View.{View, Disk, Stretch, disk_at}

-- a place is in a stretch
abbrev pub is_in : ℕ → ℕ → ℕ → Bool
is_in from len i = nat_le from i && nat_lt i (from + len)

-- a place is in an unsynced stretch
abbrev pub is_unsynced : List Stretch → ℕ → Bool
is_unsynced [] i = false
is_unsynced (r ∷ rs) i = is_in r.from r.len i || is_unsynced rs i

-- the bytes of a device, with all ones where they are unsynced
pub record IsOnes (disk : Disk) (image : List ℕ) : Type 0 where
  pub size : length image ≡ length disk.bytes
  pub each : (i : ℕ) → i < length disk.bytes
      → slice_index image i ≡ (if is_unsynced disk.unsynced i then 255 else slice_index disk.bytes i)

-- a device's bytes where nothing of it is unsynced, and else those of earlier
abbrev pub or_earlier : List Stretch → List ℕ → List ℕ → List ℕ
or_earlier [] bytes earlier = bytes
or_earlier (r ∷ rs) bytes earlier = earlier

-- the bytes of a device as before its unsynced writes: those of the last moment, up to this one, at which nothing of it
-- was unsynced
abbrev pub before_writes : View → Dev → ℕ → List ℕ
before_writes v dev zero = (disk_at v 0 dev).bytes
before_writes v dev (suc t) = or_earlier (disk_at v (suc t) dev).unsynced (disk_at v (suc t) dev).bytes
    (before_writes v dev t)

-- what a crash at a moment leaves of a device
abbrev pub LeavesBy : Choice → View → ℕ → Dev → List ℕ → Type 0
LeavesBy Old v t dev image = image ≡ before_writes v dev t
LeavesBy New v t dev image = image ≡ (disk_at v t dev).bytes
LeavesBy Ones v t dev image = IsOnes (disk_at v t dev) image
