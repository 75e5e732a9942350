-- Lines that close a step of which all that was given is kept, and so tell nothing that isn't.
use Rattle.std.specs.Prelude.{◌≡◌, ◌≤◌, ℕ, ◌++◌, false}
use Rattle.mas_types.specs.declared.ids.MemberId.{MemberId}
use Rattle.mas_types.specs.Limits.{members_most}
use Rattle.lock_cycle.specs.Books.{IsMember, is_stopped}
use Rattle.mas_complex.specs.Journals.{in_flight}
use Rattle.spool_plant.specs.declared.plant.Plant.{Ghosts as PlantGhosts}
use Rattle.ckpt_copy.specs.declared.copying.Copying.{Ghosts as CopyGhosts}
use Rattle.ckpt_form.specs.declared.steady.Steady.{Ghosts as SteadyGhosts}
use Rattle.mas_complex.specs.declared.complex.Complex.{Complex}
use Rattle.member_steps.specs.Steps.{AreKeptFrom}

module _ {P C : Type 0} {plants : PlantGhosts P} {steadies : SteadyGhosts C} {copies : CopyGhosts C} where
  -- Each batch is kept by now, one in flight too, that has an entry of this step of the member, or of a later one.
  -- Where several members are at their lines, those of the others may be of any step.
  abbrev pub IsStepKept : Complex P C plants steadies copies → MemberId → ℕ → Type 0
  IsStepKept x by at = AreKeptFrom by at (x.journal.batches ++ in_flight x.current) (plants.view x.plant).now

  -- a member that is up may say its line
  pub record MaySayItsLine (x : Complex P C plants steadies copies) (m : MemberId) (at : ℕ) : Type 0 where
    pub member : IsMember x.book m
    pub up : is_stopped x.book m ≡ false
    pub by : m.0 ≤ members_most
    pub kept : plants.tells → IsStepKept x m at
