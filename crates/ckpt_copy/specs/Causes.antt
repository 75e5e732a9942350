-- Why a call of a copy answers no.
use Rattle.std.specs.Prelude.{◌≡◌, ◌≢◌, ◌⊎◌, ℕ, ◌<◌, true, Result, Ok, Err}
use Rattle.mas_types.specs.declared.ids.Dev.{Dev}
use Rattle.spool_plant.specs.declared.plant.Part.{Part}
use Rattle.spool_plant.specs.declared.plant.Part.TheVariants.{Disk as DiskPart}
use Rattle.spool_plant.specs.declared.plant.Act.{Act}
use Rattle.spool_plant.specs.declared.plant.Act.TheVariants.{Done, Failed, Halted}
use Rattle.spool_plant.specs.View.{View, disk_now}
use Rattle.spool_plant.specs.Acts.{Goes, Rose, top}
use Rattle.ckpt_copy.specs.declared.copying.CopyNo.{CopyNo}
use Rattle.ckpt_copy.specs.declared.copying.CopyNo.TheVariants.{Failed as CopyFailed, Halted as CopyHalted}
use Rattle.ckpt_copy.specs.declared.copying.FindNo.{FindNo}
use Rattle.ckpt_copy.specs.declared.copying.FindNo.TheVariants.{Failed as FindFailed, Halted as FindHalted, NotValid, NoMemory}

-- a call's answer as that of an act
abbrev pub answer_of : {T : Type 0} → Result T CopyNo → Act
answer_of (Ok value) = Done
answer_of (Err CopyFailed) = Failed
answer_of (Err CopyHalted) = Halted

-- the answer of a `find` in which an act was answered so
abbrev pub found_no : CopyNo → FindNo
found_no CopyFailed = FindFailed
found_no CopyHalted = FindHalted

abbrev pub no_memory : FindNo
no_memory = NoMemory

-- a `find`'s answer as that of an act
abbrev pub answer_found : {T : Type 0} → Result T FindNo → Act
answer_found (Ok value) = Done
answer_found (Err FindFailed) = Failed
answer_found (Err FindHalted) = Halted
answer_found (Err NotValid) = Done
answer_found (Err NoMemory) = Done

-- A call of a member that acts on one device alone, with this answer: Failed is answered only where the device's faults
-- rose, and the device is lost then; Halted only where the member's stops rose, in its last act; else no part is lost,
-- no fault is counted and nobody is stopped by it. It arms nothing.
pub record Caused (by : ℕ) (dev : Dev) (old new : View) (answer : Act) : Type 0 where
  pub goes : Goes old new
  pub failed : answer ≡ Failed → Rose (old.faults (DiskPart dev)) (new.faults (DiskPart dev))
  pub is_lost : answer ≡ Failed → new.lost (DiskPart dev) ≡ true
  pub else_lost : (p : Part) → (p ≢ DiskPart dev) ⊎ (answer ≢ Failed) → new.lost p ≡ old.lost p
  pub else_faults : (p : Part) → (p ≢ DiskPart dev) ⊎ (answer ≢ Failed) → new.faults p ≡ old.faults p
  pub halted : answer ≡ Halted → Rose (old.stops by) (new.stops by)
  pub not_operator : answer ≡ Halted → 0 < by
  pub no_other_stop : (m : ℕ) → (m ≢ by) ⊎ (answer ≢ Halted) → new.stops m ≡ old.stops m
  pub at_halt : answer ≡ Halted → new.halt ≡ new.now
  pub loses : (d : Dev) → new.loses d ≡ old.loses d
  pub arms : (m : ℕ) → new.arms m ≡ old.arms m

-- once an act failed, the device is lost in the world
abbrev pub IsOut : Dev → View → Act → Type 0
IsOut dev new answer = answer ≡ Failed → new.now < top → (disk_now new dev).lost ≡ true
