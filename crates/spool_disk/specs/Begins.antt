-- What a plant in memory shows at first, and after a crash.
use Rattle.std.specs.Prelude.{◌≡◌, ℕ, ◌+◌, ◌*◌, false, if◌then◌else◌, Some, None, replicate, List, []}
use Rattle.mas_types.specs.declared.ids.Dev.{Dev}
use Rattle.spool_plant.specs.declared.plant.Part.{Part}
use Rattle.spool_plant.specs.declared.plant.Part.TheVariants.{Disk as DiskPart}
use Rattle.spool_disk.specs.declared.base.Base.{Base}
use Rattle.spool_plant.specs.declared.choice.Choice.{Choice}
use Rattle.spool_disk.specs.declared.health.Health.{Health}
use Rattle.spool_disk.specs.declared.sizes.Sizes.{Sizes}
use Rattle.spool_disk.specs.Health.{was_lost, health_at}
use Rattle.spool_disk.specs.Sizes.{size_in}
use Rattle.spool_disk.specs.Standing.{bytes_at}
use Rattle.spool_disk.specs.Places.{slot_of, place_of}
use Rattle.spool_disk.specs.State.{first_lines}
use Rattle.spool_plant.specs.Crash.{LeavesBy}
use Rattle.spool_plant.specs.View.{View, disk_at, disk_now, taken_now, given_now, IsImage}

-- no act was made, every count is 0, and nothing waits or has moved on a wire
pub record IsNew (v : View) : Type 0 where
  pub now : v.now ≡ 0
  pub unsynced : (d : Dev) → (disk_now v d).unsynced ≡ []
  pub faults : (p : Part) → v.faults p ≡ 0
  pub stops : (m : ℕ) → v.stops m ≡ 0
  pub loses : (d : Dev) → v.loses d ≡ 0
  pub waiting : (w : ℕ) → v.waiting w ≡ []
  pub taken : (w m : ℕ) → taken_now v w m ≡ []
  pub given : (w m : ℕ) → given_now v w m ≡ []
  pub arms : (m : ℕ) → v.arms m ≡ 0
  pub halt : v.halt ≡ 0

-- a part after a crash at a moment
abbrev pub restarted : ℕ → Health → Health
restarted t h = record { faults = 0; since = if was_lost h.since t then Some 0 else None; lost = was_lost h.since t }

pub record BeginsWith (base : Base) (parts : List Health) (v : View) : Type 0 where
  pub fresh : IsNew v
  pub bytes : (d : Dev) → (disk_now v d).bytes ≡ bytes_at base.start.items (slot_of d)
  pub disk : (d : Dev) → (disk_now v d).lost ≡ was_lost (health_at parts (4 * slot_of d)).since 0
  pub lost : (p : Part) → v.lost p ≡ (health_at parts (place_of p)).lost
  pub size : (d : Dev) → v.size d ≡ size_in base.sizes (slot_of d)
  pub console : (v.world 0).console ≡ first_lines base 1
  pub paper : (m : ℕ) → (v.world 0).paper m ≡ first_lines base (4 * m + 2)

-- what a crash at a moment left of an older plant, by a choice
pub record IsCrashed (choice : Choice) (t : ℕ) (old new : View) : Type 0 where
  pub fresh : IsNew new
  pub size : (d : Dev) → new.size d ≡ old.size d
  pub bytes : (d : Dev) → LeavesBy choice old t d (disk_now new d).bytes
  pub image : (d : Dev) → (disk_at old t d).lost ≡ false → IsImage (disk_at old t d) (disk_now new d).bytes
  pub disk : (d : Dev) → (disk_now new d).lost ≡ (disk_at old t d).lost
  pub lost : (d : Dev) → new.lost (DiskPart d) ≡ (disk_at old t d).lost
  pub console : (new.world 0).console ≡ (old.world t).console
  pub paper : (m : ℕ) → (new.world 0).paper m ≡ (old.world t).paper m

-- devices of zeros, no part lost, and no line
pub record IsBlank (sizes : Sizes) (v : View) : Type 0 where
  pub fresh : IsNew v
  pub size : (d : Dev) → v.size d ≡ size_in sizes (slot_of d)
  pub bytes : (d : Dev) → (disk_now v d).bytes ≡ replicate (size_in sizes (slot_of d)) 0
  pub disk : (d : Dev) → (disk_now v d).lost ≡ false
  pub lost : (p : Part) → v.lost p ≡ false
  pub console : (v.world 0).console ≡ []
  pub paper : (m : ℕ) → (v.world 0).paper m ≡ []
