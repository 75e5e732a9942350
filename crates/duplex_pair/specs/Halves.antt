-- The two devices of a pair, and what a call does to one of its copies.
use Rattle.std.specs.Prelude.{◌≡◌, ◌≢◌, ◌⊎◌, ◌||◌, ℕ, ◌<◌, Bool, true, false}
use Rattle.mas_types.specs.declared.ids.Dev.{Dev}
use Rattle.mas_types.specs.declared.ids.Dev.TheVariants.{Ckpt1, Ckpt2, Spool}
use Rattle.spool_plant.specs.declared.plant.Part.{Part}
use Rattle.spool_plant.specs.declared.plant.Part.TheVariants.{Disk as DiskPart}
use Rattle.spool_plant.specs.View.{View, Disk, disk_now}
use Rattle.spool_plant.specs.Acts.{Goes, Rose, top}

-- the devices of a pair
abbrev pub IsCkpt : Dev → Type 0
IsCkpt Ckpt1 = Unit {0}
IsCkpt Ckpt2 = Unit {0}
IsCkpt (Spool n) = ⊥

-- the one of two things that is of this device
abbrev pub pick : {A : Type 0} → Dev → A → A → A
pick Ckpt1 first second = first
pick Ckpt2 first second = second
pick (Spool n) first second = first

-- the one of two things that isn't of this device
abbrev pub other : {A : Type 0} → Dev → A → A → A
other Ckpt1 first second = second
other Ckpt2 first second = first
other (Spool n) first second = second

-- A call of a member on one copy of a pair, which counted as alive before and counts so after, and whether the member
-- was stopped in it. The copy is lost exactly where an act on it failed: the device's faults rose then, and it is
-- lost. A copy on which the member was stopped counts as alive.
pub record Acted (by : ℕ) (dev : Dev) (was is stopped : Bool) (old new : View) : Type 0 where
  pub goes : Goes old new
  pub alive : is ≡ true → was ≡ true
  pub failed : was ≡ true → is ≡ false → Rose (old.faults (DiskPart dev)) (new.faults (DiskPart dev))
  pub is_lost : was ≡ true → is ≡ false → new.lost (DiskPart dev) ≡ true
  pub else_lost : (p : Part) → (p ≢ DiskPart dev) ⊎ (is ≡ was) → new.lost p ≡ old.lost p
  pub else_faults : (p : Part) → (p ≢ DiskPart dev) ⊎ (is ≡ was) → new.faults p ≡ old.faults p
  pub halted : stopped ≡ true → Rose (old.stops by) (new.stops by)
  pub at_halt : stopped ≡ true → new.halt ≡ new.now
  pub not_operator : stopped ≡ true → 0 < by
  pub stands : stopped ≡ true → is ≡ true
  pub no_other_stop : (m : ℕ) → (m ≢ by) ⊎ (stopped ≡ false) → new.stops m ≡ old.stops m
  pub loses : (d : Dev) → new.loses d ≡ old.loses d
  pub arms : (m : ℕ) → new.arms m ≡ old.arms m

-- a copy that a call took away is lost in the world
abbrev pub IsGone : Dev → Bool → Bool → View → Type 0
IsGone dev was is new = was ≡ true → is ≡ false → new.now < top → (disk_now new dev).lost ≡ true

-- the device as it was, or lost
pub record SameOrLost (was disk : Disk) : Type 0 where
  pub bytes : disk.bytes ≡ was.bytes
  pub unsynced : disk.unsynced ≡ was.unsynced
  pub there : disk.lost ≡ false → was.lost ≡ false

-- one of the two counts as alive
abbrev pub SomeAlive : Bool → Bool → Type 0
SomeAlive first second = (first || second) ≡ true

abbrev pub IsBothLost : Bool → Bool → Type 0
IsBothLost first second = (first ≡ false) × (second ≡ false)

-- each copy that counts as alive is ready
pub record AreReady {C : Type 0} (ready : C → View → Type 0) (one two : C) (one_alive two_alive : Bool)
    (v : View) : Type 0 where
  pub first : one_alive ≡ true → ready one v
  pub second : two_alive ≡ true → ready two v
