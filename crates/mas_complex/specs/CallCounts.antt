-- What a call of a member on the copies leaves of what is counted.
use Rattle.mas_complex.specs.Names.{Dev, Ckpt1, Ckpt2, Spool, Disk as DiskPart, View, Goes, Rose, PairActed, after_acts, read_acts}
use Rattle.spool_plant.specs.declared.plant.Plant.{Ghosts as PlantGhosts}
use Rattle.ckpt_copy.specs.declared.copying.Copying.{Ghosts as CopyGhosts}
use Rattle.ckpt_form.specs.declared.steady.Steady.{Ghosts as SteadyGhosts}
use Rattle.mas_complex.specs.declared.complex.Complex.{Complex}
use Rattle.mas_complex.specs.Parts.{Parts, Shown}
use Rattle.std.specs.Prelude.{◌≡◌, ◌≢◌, ◌⊎◌, ℕ, ◌+◌, Bool, true, false}

-- the calls that lost a copy's device: as many as before, or one more where the copy counted as alive and doesn't any
-- more
abbrev pub IsLostOnce : Bool → Bool → ℕ → ℕ → Type 0
IsLostOnce was is before after = (after ≡ before) ⊎ ((was ≡ true) × (is ≡ false) × (after ≡ before + 1))

-- a copy that counted as alive and doesn't any more was lost by a fault of its device, or by a call that lost it
abbrev pub IsLostSo : Dev → Bool → Bool → View → View → Type 0
IsLostSo dev was is old new = was ≡ true → is ≡ false
    → Rose (old.faults (DiskPart dev)) (new.faults (DiskPart dev)) ⊎ Rose (old.loses dev) (new.loses dev)

-- a copy that counts as alive is no more lost than it was, and one that doesn't any more is lost
abbrev pub StandsOrLost : Dev → Bool → Bool → View → View → Type 0
StandsOrLost dev was is old new =
    (is ≡ true → old.lost (DiskPart dev) ≡ false → new.lost (DiskPart dev) ≡ false)
    × (was ≡ true → is ≡ false → new.lost (DiskPart dev) ≡ true)

-- which copies count as alive, and what the plant shows
pub record PairState : Type 0 where
  pub first : Bool
  pub second : Bool
  pub view : View

abbrev pub pair_at : Bool → Bool → View → PairState
pair_at first second view = record { first = first; second = second; view = view }

-- those of these parts
abbrev pub pair_state : {P C : Type 0} → (P → View) → Parts P C → PairState
pair_state view x = record { first = x.first_alive; second = x.second_alive; view = view x.plant }

module _ {P C : Type 0} {plants : PlantGhosts P} {steadies : SteadyGhosts C} {copies : CopyGhosts C} where
  -- and those of a shared value
  abbrev pub pair_of : Complex P C plants steadies copies → PairState
  pair_of x = pair_at x.pair.first.alive x.pair.second.alive (plants.view x.plant)

-- acts of a member on both copies, and reads of each that counts as alive
abbrev pub ActedOn : ℕ → Bool → PairState → PairState → Type 0
ActedOn by stopped old new = PairActed by old.first new.first old.second new.second stopped old.view new.view

abbrev pub TookReadActs : PairState → PairState → Type 0
TookReadActs old new = new.view.now ≡ after_acts (read_acts old.first new.first old.second new.second) old.view.now

-- of what is shown
abbrev pub shown_state : Shown → PairState
shown_state x = record { first = x.first_alive; second = x.second_alive; view = x.view }

-- what a call leaves of a copy that counted as alive before or not, and of what is counted of its device
pub record CountsCopy (dev : Dev) (was is : Bool) (old new : View) : Type 0 where
  pub alive : is ≡ true → was ≡ true
  pub once : IsLostOnce was is (old.loses dev) (new.loses dev)
  pub gone : IsLostSo dev was is old new
  pub stands : StandsOrLost dev was is old new

-- Which copies counted as alive before the call and count so after it, and whether the member was stopped in it: nobody
-- else is stopped, and its stop is the last act; nothing is armed, and no device is lost by a call but that of a copy,
-- once. Each volume is lost where it was, and no fault of it is counted.
pub record KeepsCounts (by : ℕ) (stopped : Bool) (old new : PairState) : Type 0 where
  pub goes : Goes old.view new.view
  pub first : CountsCopy Ckpt1 old.first new.first old.view new.view
  pub second : CountsCopy Ckpt2 old.second new.second old.view new.view
  pub no_other_stop : (m : ℕ) → (m ≢ by) ⊎ (stopped ≡ false) → new.view.stops m ≡ old.view.stops m
  pub at_halt : stopped ≡ true → new.view.halt ≡ new.view.now
  pub arms : (m : ℕ) → new.view.arms m ≡ old.view.arms m
  pub else_loses : (d : Dev) → d ≢ Ckpt1 → d ≢ Ckpt2 → new.view.loses d ≡ old.view.loses d
  pub volumes_lost : (n : ℕ) → new.view.lost (DiskPart (Spool n)) ≡ old.view.lost (DiskPart (Spool n))
  pub volumes_faults : (n : ℕ) → new.view.faults (DiskPart (Spool n)) ≡ old.view.faults (DiskPart (Spool n))
