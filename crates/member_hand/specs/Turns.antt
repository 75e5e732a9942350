-- A member's turn in a step: it has the lock, or takes it again, takes its seat, and sits.
use Rattle.std.specs.Prelude.{◌≡◌, Ok}
use Rattle.mas_types.specs.declared.ids.MemberId.{MemberId}
use Rattle.spool_plant.specs.declared.plant.Plant.{Ghosts as PlantGhosts}
use Rattle.ckpt_copy.specs.declared.copying.Copying.{Ghosts as CopyGhosts}
use Rattle.ckpt_form.specs.declared.steady.Steady.{Ghosts as SteadyGhosts}
use Rattle.mas_complex.specs.declared.complex.Complex.{Complex}
use Rattle.mas_complex.specs.Parts.{Parts, parts_of}
use Rattle.run_turns.specs.Pieces.{entered}
use Rattle.member_sittings.specs.declared.ends.SittingEnd.{SittingEnd}
use Rattle.member_sittings.specs.Sat.{CopiesActed, Sat, Start, sat_in, seated_in}

-- the member has the lock
abbrev pub taken : {P C : Type 0} → MemberId → Parts P C → Parts P C
taken by x = record x { book = entered x.book by }

module _ {P C : Type 0} (plants : PlantGhosts P) where
  -- Between the two the member took its seat: it read the copies, and made room for a batch.
  pub record HasTurned (s : Start) (x y : Parts P C) (end : SittingEnd) : Type 0 where
    pub seat : Parts P C
    pub locked : seat ≡ seated_in seat (taken s.holder.by x)
    pub took : CopiesActed plants {T = Unit {0}} s.holder.by (taken s.holder.by x) seat (Ok tt)
    pub frame : y ≡ sat_in y seat
    pub sat : Sat plants s seat y (Ok end)

-- OVER THE SHARED VALUE

module _ {P C : Type 0} {plants : PlantGhosts P} {steadies : SteadyGhosts C} {copies : CopyGhosts C} where
  abbrev pub TookTurn : Complex P C plants steadies copies → Complex P C plants steadies copies → Start → SittingEnd
      → Type 0
  TookTurn x y s end = HasTurned plants s (parts_of x) (parts_of y) end
