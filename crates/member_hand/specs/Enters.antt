-- A member that has the lock, and takes its seat in a step, or has it still.
use Rattle.std.specs.Prelude.{◌≡◌}
use Rattle.spool_plant.specs.declared.plant.Plant.{Ghosts as PlantGhosts}
use Rattle.ckpt_copy.specs.declared.copying.Copying.{Ghosts as CopyGhosts}
use Rattle.ckpt_form.specs.declared.steady.Steady.{Ghosts as SteadyGhosts}
use Rattle.mas_complex.specs.declared.complex.Complex.{Complex}
use Rattle.mas_complex.specs.Parts.{Parts, parts_of}
use Rattle.member_node.specs.declared.member.Member.{Member}
use Rattle.step_turns.specs.declared.states.Holder.{Holder}
use Rattle.step_turns.specs.declared.states.Grant.{Grant}
use Rattle.step_turns.specs.declared.states.Grant.TheVariants.{ByLock, ForStep}
use Rattle.member_sittings.specs.Gates.{IsAtGate, IsAtSeat}
use Rattle.member_sittings.specs.Whole.{HasStepKept, HasUntold}

module _ {P C : Type 0} (plants : PlantGhosts P) (copies : CopyGhosts C) where
  -- A member that took the lock for its step may know nothing of what the copies have. One that has it by the
  -- operator's LOCK has its seat still.
  abbrev pub IsBeforeSeat : Grant → Parts P C → Member → Type 0
  IsBeforeSeat ForStep x m = IsAtGate plants copies x m
  IsBeforeSeat ByLock x m = IsAtSeat plants copies x m

  -- It may take its seat, or has it, and may sit in this step, which no line on the console tells, and of which nothing
  -- was dropped.
  pub record IsToEnter (x : Parts P C) (m : Member) (h : Holder) : Type 0 where
    pub gate : IsBeforeSeat h.grant x m
    pub untold : HasUntold plants copies x m.id h.step
    pub step : HasStepKept plants copies x m.id h.step
    pub holder : h.by ≡ m.id

-- OVER THE SHARED VALUE

module _ {P C : Type 0} {plants : PlantGhosts P} {steadies : SteadyGhosts C} {copies : CopyGhosts C} where
  abbrev pub MayEnter : Complex P C plants steadies copies → Member → Holder → Type 0
  MayEnter x m h = IsToEnter plants copies (parts_of x) m h
