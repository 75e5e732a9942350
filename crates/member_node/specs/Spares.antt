-- What a member's call doesn't do, over any plant.
use Rattle.std.specs.Prelude.{◌≡◌, ◌≢◌, ◌⊎◌, ℕ, ◌<◌, Bool, true, false, Result, Ok, Err}
use Rattle.mas_types.specs.declared.ids.Dev.TheVariants.{Spool}
use Rattle.spool_plant.specs.View.{View}
use Rattle.member_node.specs.Calls.{VolumesStay}
use Rattle.member_node.specs.declared.member.NodeNo.{NodeNo}
use Rattle.member_node.specs.declared.member.NodeNo.TheVariants.{BothLost, Halted, ConsoleFault, NoMemory}

-- the member was stopped in a call that ended so
abbrev pub is_stop : NodeNo → Bool
is_stop Halted = true
is_stop BothLost = false
is_stop ConsoleFault = false
is_stop NoMemory = false

abbrev pub stopped_in : {T : Type 0} → Result T NodeNo → Bool
stopped_in (Ok done) = false
stopped_in (Err e) = is_stop e

-- No volume is lost by a call. Nobody is stopped but the member, and it only where the call says so; never the
-- operator. So where an act of the call was halted its answer is Halted: no act is tried again or goes unheeded. That
-- act is the last one of the call: nobody acts after it.
pub record Spares (by : ℕ) (stopped : Bool) (old new : View) : Type 0 where
  pub volumes : (n : ℕ) → new.loses (Spool n) ≡ old.loses (Spool n)
  pub stops : (m : ℕ) → (m ≢ by) ⊎ (stopped ≡ false) → new.stops m ≡ old.stops m
  pub operator : stopped ≡ true → 0 < by
  pub at_halt : stopped ≡ true → new.halt ≡ new.now

-- So it is, and each volume but these is lost where it was, and no fault of it is counted: a volume that failed in the
-- call is one that the call names.
pub record SparesBut (by : ℕ) (stopped : Bool) (but : ℕ → Bool) (old new : View) : Type 0 where
  pub spares : Spares by stopped old new
  pub volumes : VolumesStay but old new
