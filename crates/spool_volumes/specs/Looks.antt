-- What a look at the spool volumes leaves.
use Rattle.std.specs.Prelude.{◌≡◌, ◌≢◌, ◌⊎◌, ℕ, Bool, true, false, List, All, Some, Result, Ok, Err}
use Rattle.std.specs.List.{list_any}
use Rattle.mas_types.specs.declared.ids.Dev.{Dev}
use Rattle.mas_types.specs.declared.ids.Dev.TheVariants.{Ckpt1, Ckpt2, Spool}
use Rattle.mas_types.specs.declared.ids.GroupNo.{GroupNo}
use Rattle.spool_plant.specs.declared.plant.Part.{Part}
use Rattle.spool_plant.specs.declared.plant.Part.TheVariants.{Disk as DiskPart}
use Rattle.spool_plant.specs.View.{View, disk_at, disk_now, Throughout}
use Rattle.spool_plant.specs.Acts.{Goes}
use Rattle.ckpt_copy.specs.Changes.{NoMore}
use Rattle.ckpt_copy.specs.Meanwhile.{SameSides}
use Rattle.spool_volumes.specs.Volumes.{Volumes, volume_of}
use Rattle.spool_volumes.specs.declared.reading.ReadError.{ReadError}
use Rattle.spool_volumes.specs.declared.reading.ReadError.TheVariants.{Halted}

-- what a plant shows of each volume, lost or not
abbrev pub volumes_shown : View → Volumes
volumes_shown v n = Some (disk_now v (Spool n)).bytes

-- one of the groups lies on a volume that is lost now
abbrev pub lie_on_lost : View → ℕ → List GroupNo → Bool
lie_on_lost v per groups = list_any (λ g. v.lost (DiskPart (Spool (volume_of per g)))) groups

-- At each moment of a call no byte of a volume has changed and nothing more of it is unsynced, and nothing else in the
-- world changes.
pub record OnlyLooksAt (old new : View) : Type 0 where
  pub goes : Goes old new
  pub volumes : Throughout old.now new.now (λ t. (n : ℕ) → NoMore (disk_now old (Spool n)) (disk_at new t (Spool n)))
  pub first : Throughout old.now new.now (λ t. disk_at new t Ckpt1 ≡ disk_now old Ckpt1)
  pub second : Throughout old.now new.now (λ t. disk_at new t Ckpt2 ≡ disk_now old Ckpt2)
  pub console : Throughout old.now new.now (λ t. (new.world t).console ≡ (old.world old.now).console)
  pub sides : Throughout old.now new.now (λ t. SameSides (old.world old.now) (new.world t))

-- A call of a member that only looks at volumes: no other part is lost in it, and nobody but the member is stopped, nor
-- the operator.
pub record LooksAt (tells : Type 0) (by : ℕ) (old new : View) : Type 0 where
  pub goes : Goes old new
  pub during : tells → OnlyLooksAt old new
  pub else_lost : (p : Part) → ((n : ℕ) → p ≢ DiskPart (Spool n)) → new.lost p ≡ old.lost p
  pub loses : (d : Dev) → new.loses d ≡ old.loses d
  pub no_other_stop : (m : ℕ) → (m ≢ by) ⊎ (by ≡ 0) → new.stops m ≡ old.stops m

-- a part is no volume on which one of the groups lies
abbrev pub IsElsewhere : ℕ → List GroupNo → Part → Type 0
IsElsewhere per groups p = All (λ g. p ≢ DiskPart (Spool (volume_of per g))) groups

-- A call of a member that reads groups: no part is lost in it, and of none a fault is counted, but of a volume on which
-- one of the groups lies; and nobody is stopped, but the member where the call says so.
pub record SparesOthers (by per : ℕ) (groups : List GroupNo) (stopped : Bool) (old new : View) : Type 0 where
  pub lost : (p : Part) → IsElsewhere per groups p → new.lost p ≡ old.lost p
  pub faults : (p : Part) → IsElsewhere per groups p → new.faults p ≡ old.faults p
  pub stops : (m : ℕ) → (m ≢ by) ⊎ (stopped ≡ false) → new.stops m ≡ old.stops m
  pub at_halt : stopped ≡ true → new.halt ≡ new.now

-- the member was stopped in a read
abbrev pub read_stopped : {T : Type 0} → Result T ReadError → Bool
read_stopped (Ok value) = false
read_stopped (Err Halted) = true
