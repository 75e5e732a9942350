-- What a line leaves by which a member keeps the lock, for every answer.
use Rattle.std.specs.Prelude.{◌≡◌, ◌⊎◌, ℕ, Result, Ok, Err}
use Rattle.mas_types.specs.declared.ids.MemberId.{MemberId}
use Rattle.spool_plant.specs.declared.plant.Plant.{Ghosts as PlantGhosts}
use Rattle.ckpt_copy.specs.declared.copying.Copying.{Ghosts as CopyGhosts}
use Rattle.ckpt_form.specs.declared.steady.Steady.{Ghosts as SteadyGhosts}
use Rattle.mas_complex.specs.declared.complex.Complex.{Complex}
use Rattle.mas_complex.specs.Parts.{Parts, parts_of}
use Rattle.member_node.specs.declared.member.Member.{Member}
use Rattle.member_node.specs.declared.member.NodeNo.{NodeNo}
use Rattle.member_sittings.specs.Gates.{HasTakenSeat}
use Rattle.member_sittings.specs.Sat.{CopiesActed, seated_in}
use Rattle.run_turns.specs.Admissions.{Admission}
use Rattle.run_turns.specs.Scenes.{Scene}
use Rattle.step_turns.specs.declared.states.Release.TheVariants.{Keep}
use Rattle.member_lines.specs.Closes.{HasSaid, IsTested, done, failed, left_at, stopped_so}

module _ {P C : Type 0} (plants : PlantGhosts P) (copies : CopyGhosts C) where
  -- A member couldn't take its seat: acts on the copies alone, and nothing was said. One that was halted in them is
  -- stopped.
  abbrev pub HasNoSeat : MemberId → Parts P C → Parts P C → NodeNo → Type 0
  HasNoSeat by x y why = CopiesActed plants by x y (failed why) × (y ≡ stopped_so (failed why) by (seated_in y x))

  -- It took its seat, by acts on the copies alone, and this followed.
  pub record HasSeat (Follows : Parts P C → Parts P C → Result (Unit {0}) NodeNo → Type 0) (m n : Member)
      (x y : Parts P C) (result : Result (Unit {0}) NodeNo) : Type 0 where
    pub mid : Parts P C
    pub entered : mid ≡ seated_in mid x
    pub acts : CopiesActed plants m.id x mid done
    pub took : HasTakenSeat plants copies mid n
    pub follows : Follows mid y result

  abbrev pub SeatsBy : (Parts P C → Parts P C → Result (Unit {0}) NodeNo → Type 0) → Member → Member → Parts P C
      → Parts P C → Result (Unit {0}) NodeNo → Type 0
  SeatsBy Follows m n x y (Ok value) = HasSeat Follows m n x y (Ok value)
  SeatsBy Follows m n x y (Err why) = HasNoSeat m.id x y why ⊎ HasSeat Follows m n x y (Err why)

-- OVER THE SHARED VALUE

module _ {P C : Type 0} {plants : PlantGhosts P} {steadies : SteadyGhosts C} {copies : CopyGhosts C} where
  -- the member takes its seat, closes its line and keeps the lock, at any scene at which it was tested so
  abbrev pub SeatsAndCloses : Member → Member → ℕ → Admission → Complex P C plants steadies copies
      → Complex P C plants steadies copies → Result (Unit {0}) NodeNo → Type 0
  SeatsAndCloses m n at a x y result = (S : Scene) → IsTested S m.id a x.book
      → SeatsBy plants copies (HasSaid plants (left_at S m.id at a) m.id Keep) m n (parts_of x) (parts_of y) result
