-- What a call does that puts another device in a lost one's place and forms a copy on it.
use Rattle.std.specs.Prelude.{◌≡◌, ◌≢◌, ◌⊎◌, ℕ, ◌≤◌, ◌<◌, Bool, true, false, Option, Some, None, List, [], replicate, Result, Ok, Err}
use Rattle.mas_types.specs.declared.ids.Dev.{Dev}
use Rattle.spool_plant.specs.declared.plant.Part.{Part}
use Rattle.spool_plant.specs.declared.plant.Part.TheVariants.{Disk as DiskPart}
use Rattle.spool_plant.specs.View.{View, Disk, disk_at, disk_now, Throughout, LeavesOnly}
use Rattle.spool_plant.specs.Acts.{Rose}
use Rattle.ckpt_copy.specs.declared.copying.CopyNo.{CopyNo}
use Rattle.ckpt_copy.specs.declared.copying.CopyNo.TheVariants.{Failed as CopyFailed, Halted as CopyHalted}
use Rattle.ckpt_copy.specs.Meanwhile.{SameSides}
use Rattle.duplex_pair.specs.Halves.{SameOrLost}
use Rattle.pair_replacing.specs.declared.replacing.ReplaceNo.{ReplaceNo}
use Rattle.pair_replacing.specs.declared.replacing.ReplaceNo.TheVariants.{NotLost, BothLost, Failed, Halted, NoMemory}

-- what a call of a copy that is formed anew answers, as the answer of a replacement
abbrev pub formed_no : CopyNo → ReplaceNo
formed_no CopyFailed = Failed
formed_no CopyHalted = Halted

abbrev pub no_memory : ReplaceNo
no_memory = NoMemory

-- the member was stopped in it
abbrev pub replace_stopped : {T : Type 0} → Result T ReplaceNo → Bool
replace_stopped (Ok value) = false
replace_stopped (Err NotLost) = false
replace_stopped (Err BothLost) = false
replace_stopped (Err Failed) = false
replace_stopped (Err Halted) = true
replace_stopped (Err NoMemory) = false

-- A member replaces a device, and whether it was stopped in it: past worlds stay, counts don't fall, and only this
-- device may fail, be lost or be there again.
pub record Replaces (by : ℕ) (dev : Dev) (stopped : Bool) (old new : View) : Type 0 where
  pub later : old.now ≤ new.now
  pub past : (t : ℕ) → t ≤ old.now → new.world t ≡ old.world t
  pub size : (d : Dev) → new.size d ≡ old.size d
  pub faults : (p : Part) → old.faults p ≤ new.faults p
  pub stops : (m : ℕ) → old.stops m ≤ new.stops m
  pub else_lost : (p : Part) → p ≢ DiskPart dev → new.lost p ≡ old.lost p
  pub else_faults : (p : Part) → p ≢ DiskPart dev → new.faults p ≡ old.faults p
  pub halted : stopped ≡ true → Rose (old.stops by) (new.stops by)
  pub at_halt : stopped ≡ true → new.halt ≡ new.now
  pub not_operator : stopped ≡ true → 0 < by
  pub no_other_stop : (m : ℕ) → (m ≢ by) ⊎ (stopped ≡ false) → new.stops m ≡ old.stops m
  pub loses : (d : Dev) → new.loses d ≡ old.loses d
  pub arms : (m : ℕ) → new.arms m ≡ old.arms m

-- a device of zeros that is there, all of it synced
pub record IsBlank (size : ℕ) (disk : Disk) : Type 0 where
  pub bytes : disk.bytes ≡ replicate size 0
  pub synced : disk.unsynced ≡ []

-- the device is as it was, or is lost now and holds what it held, or is one of zeros
abbrev pub IsOrBlank : ℕ → Disk → Disk → Type 0
IsOrBlank size was disk = SameOrLost was disk ⊎ IsBlank size disk

-- the device is as it was, or lost now, or each of its images reads as none or as these pages
abbrev pub IsOrForms : (List ℕ → Option (List ℕ)) → Disk → List ℕ → Disk → Type 0
IsOrForms reads was pages disk = SameOrLost was disk
    ⊎ LeavesOnly disk (λ image. (reads image ≡ None) ⊎ (reads image ≡ Some pages))

-- The copy counts as alive, has these many pages and all its room, and its device is there.
pub record IsFormed {C : Type 0} (count room : C → ℕ) (room_most : ℕ) (ready : C → View → Type 0) (pages : ℕ)
    (dev : Dev) (v : View) (copy : C) : Type 0 where
  pub as_many : count copy ≡ pages
  pub has_room : room copy ≡ room_most
  pub is_ready : ready copy v
  pub there : v.lost (DiskPart dev) ≡ false

-- P holds of the device at each moment of the call, and nothing else in the world changes.
pub record WhileReplaced (dev : Dev) (P : Disk → Type 0) (old new : View) : Type 0 where
  pub here : Throughout old.now new.now (λ t. P (disk_at new t dev))
  pub others : Throughout old.now new.now (λ t. (d : Dev) → d ≢ dev → disk_at new t d ≡ disk_now old d)
  pub console : Throughout old.now new.now (λ t. (new.world t).console ≡ (old.world old.now).console)
  pub sides : Throughout old.now new.now (λ t. SameSides (old.world old.now) (new.world t))
  pub waiting : (w : ℕ) → new.waiting w ≡ old.waiting w
