-- What holds at each moment of a call that acts on one device.
use Rattle.std.specs.Prelude.{◌≡◌, ◌≢◌, ℕ}
use Rattle.mas_types.specs.declared.ids.Dev.{Dev}
use Rattle.spool_plant.specs.View.{View, World, Disk, disk_at, disk_now, Throughout}
use Rattle.spool_plant.specs.Acts.{Goes}

-- printers hold the same lines in two worlds, and the same bytes were moved on wires
pub record SameSides (old new : World) : Type 0 where
  pub paper : (m : ℕ) → new.paper m ≡ old.paper m
  pub taken : (w m : ℕ) → new.taken w m ≡ old.taken w m
  pub given : (w m : ℕ) → new.given w m ≡ old.given w m

-- P holds of the device at each moment of the call, and nothing else in the world changes.
pub record Meanwhile (dev : Dev) (P : Disk → Type 0) (old new : View) : Type 0 where
  pub goes : Goes old new
  pub here : Throughout old.now new.now (λ t. P (disk_at new t dev))
  pub others : Throughout old.now new.now (λ t. (d : Dev) → d ≢ dev → disk_at new t d ≡ disk_now old d)
  pub console : Throughout old.now new.now (λ t. (new.world t).console ≡ (old.world old.now).console)
  pub sides : Throughout old.now new.now (λ t. SameSides (old.world old.now) (new.world t))
  pub waiting : (w : ℕ) → new.waiting w ≡ old.waiting w
