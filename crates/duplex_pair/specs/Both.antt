-- What a call does that acts on both copies of a pair.
use Rattle.std.specs.Prelude.{◌≡◌, ◌≢◌, ◌⊎◌, ◌||◌, ℕ, ◌<◌, Bool, true, false}
use Rattle.mas_types.specs.declared.ids.Dev.{Dev}
use Rattle.mas_types.specs.declared.ids.Dev.TheVariants.{Ckpt1, Ckpt2}
use Rattle.spool_plant.specs.declared.plant.Part.{Part}
use Rattle.spool_plant.specs.declared.plant.Part.TheVariants.{Disk as DiskPart}
use Rattle.spool_plant.specs.View.{View, Disk, disk_at, disk_now, Throughout}
use Rattle.spool_plant.specs.Acts.{Goes, Rose}
use Rattle.ckpt_copy.specs.Meanwhile.{SameSides}

-- A call of a member on the pair: which copies counted as alive before and count so after, and whether the member was
-- stopped in it. A copy is lost exactly where an act on it failed: the device's faults rose then, and it is lost.
-- Where the member was stopped a copy counts as alive.
pub record PairActed (by : ℕ) (was1 is1 was2 is2 stopped : Bool) (old new : View) : Type 0 where
  pub goes : Goes old new
  pub alive1 : is1 ≡ true → was1 ≡ true
  pub alive2 : is2 ≡ true → was2 ≡ true
  pub failed1 : was1 ≡ true → is1 ≡ false → Rose (old.faults (DiskPart Ckpt1)) (new.faults (DiskPart Ckpt1))
  pub failed2 : was2 ≡ true → is2 ≡ false → Rose (old.faults (DiskPart Ckpt2)) (new.faults (DiskPart Ckpt2))
  pub is_lost1 : was1 ≡ true → is1 ≡ false → new.lost (DiskPart Ckpt1) ≡ true
  pub is_lost2 : was2 ≡ true → is2 ≡ false → new.lost (DiskPart Ckpt2) ≡ true
  pub else_lost : (p : Part) → (p ≢ DiskPart Ckpt1) ⊎ (is1 ≡ was1) → (p ≢ DiskPart Ckpt2) ⊎ (is2 ≡ was2)
      → new.lost p ≡ old.lost p
  pub else_faults : (p : Part) → (p ≢ DiskPart Ckpt1) ⊎ (is1 ≡ was1) → (p ≢ DiskPart Ckpt2) ⊎ (is2 ≡ was2)
      → new.faults p ≡ old.faults p
  pub halted : stopped ≡ true → Rose (old.stops by) (new.stops by)
  pub at_halt : stopped ≡ true → new.halt ≡ new.now
  pub not_operator : stopped ≡ true → 0 < by
  pub stands : stopped ≡ true → (is1 || is2) ≡ true
  pub no_other_stop : (m : ℕ) → (m ≢ by) ⊎ (stopped ≡ false) → new.stops m ≡ old.stops m
  pub loses : (d : Dev) → new.loses d ≡ old.loses d
  pub arms : (m : ℕ) → new.arms m ≡ old.arms m

-- a copy that counts as lost isn't touched; of the other P holds
abbrev pub Touched : Bool → (Disk → Type 0) → Disk → Disk → Type 0
Touched true P was disk = P disk
Touched false P was disk = disk ≡ was

-- P holds of CKPT1, and Q of CKPT2, at each moment of the call, and nothing else in the world changes.
pub record BothMeanwhile (P Q : Disk → Type 0) (old new : View) : Type 0 where
  pub goes : Goes old new
  pub first : Throughout old.now new.now (λ t. P (disk_at new t Ckpt1))
  pub second : Throughout old.now new.now (λ t. Q (disk_at new t Ckpt2))
  pub others : Throughout old.now new.now (λ t. (d : Dev) → d ≢ Ckpt1 → d ≢ Ckpt2 → disk_at new t d ≡ disk_now old d)
  pub console : Throughout old.now new.now (λ t. (new.world t).console ≡ (old.world old.now).console)
  pub sides : Throughout old.now new.now (λ t. SameSides (old.world old.now) (new.world t))
  pub waiting : (w : ℕ) → new.waiting w ≡ old.waiting w
