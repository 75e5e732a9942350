-- Calls that only read.
use Rattle.std.specs.Prelude.{◌≡◌, ◌≢◌, ◌⊎◌, ℕ, true, false}
use Rattle.mas_types.specs.declared.ids.Dev.{Dev}
use Rattle.mas_types.specs.declared.ids.Dev.TheVariants.{Spool}
use Rattle.spool_plant.specs.declared.plant.Part.{Part}
use Rattle.spool_plant.specs.declared.plant.Part.TheVariants.{Disk as DiskPart}
use Rattle.spool_plant.specs.View.{View, World, Disk, Throughout}
use Rattle.spool_plant.specs.Acts.{Goes, Rose}

-- the device has its bytes, the same ranges of it are unsynced, and it doesn't come back
pub record IsSameDisk (old new : Disk) : Type 0 where
  pub bytes : new.bytes ≡ old.bytes
  pub unsynced : new.unsynced ≡ old.unsynced
  pub there : new.lost ≡ false → old.lost ≡ false

-- Each device is as it was, except that it may be lost; the console, the printers and the wires are as they were.
pub record IsSameWorld (old new : World) : Type 0 where
  pub disks : (d : Dev) → IsSameDisk (old.disk d) (new.disk d)
  pub console : new.console ≡ old.console
  pub paper : (m : ℕ) → new.paper m ≡ old.paper m
  pub taken : (w m : ℕ) → new.taken w m ≡ old.taken w m
  pub given : (w m : ℕ) → new.given w m ≡ old.given w m

-- a read of the volume failed, and it is lost
abbrev pub HasFailed : ℕ → View → View → Type 0
HasFailed n old new = (new.lost (DiskPart (Spool n)) ≡ true)
    × Rose (old.faults (DiskPart (Spool n))) (new.faults (DiskPart (Spool n)))

-- A call that only reads spool volumes. At each moment of it the world is as it was, and nothing is lost but a
-- volume of which a read failed. It loses no device, stops nobody and arms no stop.
pub record OnlyReads (tells : Type 0) (old new : View) : Type 0 where
  pub goes : Goes old new
  pub worlds : tells → Throughout old.now new.now (λ t. IsSameWorld (old.world old.now) (new.world t))
  pub waiting : tells → (w : ℕ) → new.waiting w ≡ old.waiting w
  pub lost : (n : ℕ) → (new.lost (DiskPart (Spool n)) ≡ old.lost (DiskPart (Spool n))) ⊎ HasFailed n old new
  pub else_lost : (p : Part) → ((n : ℕ) → p ≢ DiskPart (Spool n)) → new.lost p ≡ old.lost p
  pub loses : (d : Dev) → new.loses d ≡ old.loses d
  pub stops : (m : ℕ) → new.stops m ≡ old.stops m
  pub arms : (m : ℕ) → new.arms m ≡ old.arms m
