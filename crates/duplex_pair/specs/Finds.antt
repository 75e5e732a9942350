-- The pages that two copies give together, and what a call that finds them does beside.
use Rattle.std.specs.Prelude.{◌≡◌, ◌≢◌, ◌⊎◌, ℕ, ◌<◌, nat_lt, if◌then◌else◌, Bool, true, false, List, Option, Some, None}
use Rattle.mas_types.specs.declared.ids.Dev.{Dev}
use Rattle.mas_types.specs.declared.ids.Dev.TheVariants.{Ckpt1, Ckpt2}
use Rattle.spool_plant.specs.declared.plant.Part.{Part}
use Rattle.spool_plant.specs.declared.plant.Part.TheVariants.{Disk as DiskPart}
use Rattle.spool_plant.specs.View.{View}
use Rattle.spool_plant.specs.Acts.{Goes, Rose, next}
use Rattle.ckpt_copy.specs.Pages.{level}

-- the pages of greatest level, those of CKPT1 on a tie
abbrev pub best : Option (List ℕ) → Option (List ℕ) → Option (List ℕ)
best None two = two
best (Some one) None = Some one
best (Some one) (Some two) = if nat_lt (level one) (level two) then Some two else Some one

-- a copy was lost by one call, while the other one counts as alive
pub record IsLostBeside (dev : Dev) (was is other : Bool) (old new : View) : Type 0 where
  pub counted : new.loses dev ≡ next (old.loses dev)
  pub alive : was ≡ true
  pub gone : is ≡ false
  pub beside : other ≡ true

-- A call of a member that finds the pages of a pair: which copies counted as alive before and count so after, and
-- whether the member was stopped in it. A copy goes only where an act on it failed, or by one call while the other one
-- stays; no other part is lost, no other fault is counted, and nobody else is stopped.
pub record PairFound (by : ℕ) (was1 is1 was2 is2 stopped : Bool) (old new : View) : Type 0 where
  pub goes : Goes old new
  pub alive1 : is1 ≡ true → was1 ≡ true
  pub alive2 : is2 ≡ true → was2 ≡ true
  pub loses1 : (new.loses Ckpt1 ≡ old.loses Ckpt1) ⊎ IsLostBeside Ckpt1 was1 is1 is2 old new
  pub loses2 : (new.loses Ckpt2 ≡ old.loses Ckpt2) ⊎ IsLostBeside Ckpt2 was2 is2 is1 old new
  pub else_loses : (d : Dev) → d ≢ Ckpt1 → d ≢ Ckpt2 → new.loses d ≡ old.loses d
  pub failed1 : was1 ≡ true → is1 ≡ false → Rose (old.faults (DiskPart Ckpt1)) (new.faults (DiskPart Ckpt1))
      ⊎ (new.loses Ckpt1 ≡ next (old.loses Ckpt1))
  pub failed2 : was2 ≡ true → is2 ≡ false → Rose (old.faults (DiskPart Ckpt2)) (new.faults (DiskPart Ckpt2))
      ⊎ (new.loses Ckpt2 ≡ next (old.loses Ckpt2))
  pub else_lost : (p : Part) → (p ≢ DiskPart Ckpt1) ⊎ (is1 ≡ was1) → (p ≢ DiskPart Ckpt2) ⊎ (is2 ≡ was2)
      → new.lost p ≡ old.lost p
  pub else_faults : (p : Part) → (p ≢ DiskPart Ckpt1) ⊎ (is1 ≡ was1) → (p ≢ DiskPart Ckpt2) ⊎ (is2 ≡ was2)
      → new.faults p ≡ old.faults p
  pub halted : stopped ≡ true → Rose (old.stops by) (new.stops by)
  pub at_halt : stopped ≡ true → new.halt ≡ new.now
  pub not_operator : stopped ≡ true → 0 < by
  pub no_other_stop : (m : ℕ) → (m ≢ by) ⊎ (stopped ≡ false) → new.stops m ≡ old.stops m
