-- What holds of a plant after any number of lines of a script, and which stops stand in them.
use Rattle.std.specs.Prelude.{◌≡◌, ◌≢◌, ℕ, ◌≤◌, Bool, true, false}
use Rattle.mas_types.specs.declared.ids.Dev.{Dev}
use Rattle.mas_types.specs.declared.ids.Dev.TheVariants.{Ckpt1, Ckpt2}
use Rattle.mas_types.specs.declared.ids.MemberId.{MemberId}
use Rattle.spool_plant.specs.declared.plant.Part.{Part}
use Rattle.spool_plant.specs.declared.plant.Part.TheVariants.{Disk}
use Rattle.spool_plant.specs.View.{View}
use Rattle.spool_plant.specs.Acts.{Rose}

-- the device of a copy: where it is lost a line may put another one in its place
abbrev pub is_copy : Part → Bool
is_copy (Disk Ckpt1) = true
is_copy (Disk Ckpt2) = true
is_copy _ = false

-- What holds after any number of acts, calls that lose a device, stops that are armed, and replacements: past worlds
-- stay, counts of faults and stops don't fall, and a lost part that isn't the device of a copy stays lost.
pub record Proceeds (old new : View) : Type 0 where
  pub later : old.now ≤ new.now
  pub past : (t : ℕ) → t ≤ old.now → new.world t ≡ old.world t
  pub size : (d : Dev) → new.size d ≡ old.size d
  pub faults : (p : Part) → old.faults p ≤ new.faults p
  pub stops : (m : ℕ) → old.stops m ≤ new.stops m
  pub lost : (p : Part) → is_copy p ≡ false → old.lost p ≡ true → new.lost p ≡ true

-- a device that is lost stays lost
abbrev pub StaysLost : Dev → View → View → Type 0
StaysLost d old new = old.lost (Disk d) ≡ true → new.lost (Disk d) ≡ true

-- WHY IT WAS CUT

-- nobody's stops rose but this member's
abbrev pub OnlyStops : MemberId → View → View → Type 0
OnlyStops by old new = (m : ℕ) → m ≢ by.0 → new.stops m ≡ old.stops m

abbrev pub HasStopped : MemberId → View → View → Type 0
HasStopped by old new = Rose (old.stops by.0) (new.stops by.0)
