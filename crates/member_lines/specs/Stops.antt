-- What a stop of a member between its acts leaves, and one that is armed.
use Rattle.std.specs.Prelude.{◌≡◌, if◌then◌else◌, Bool, true, false}
use Rattle.mas_types.specs.declared.ids.MemberId.{MemberId}
use Rattle.spool_plant.specs.Acts.{Arms}
use Rattle.spool_plant.specs.declared.plant.Plant.{Ghosts as PlantGhosts}
use Rattle.ckpt_copy.specs.declared.copying.Copying.{Ghosts as CopyGhosts}
use Rattle.ckpt_form.specs.declared.steady.Steady.{Ghosts as SteadyGhosts}
use Rattle.mas_complex.specs.declared.complex.Complex.{Complex}
use Rattle.mas_complex.specs.Locking.{reserved_after_stop}
use Rattle.mas_complex.specs.Parts.{Parts, parts_of}
use Rattle.run_turns.specs.Scenes.{Scene}
use Rattle.run_turns.specs.Steps.{is_up, stop}

-- the shared value has the book and the configuration of a scene
pub record IsAt {P C : Type 0} (S : Scene) (x : Parts P C) : Type 0 where
  pub book : S.book ≡ x.book
  pub config : S.queue.config ≡ x.base.config

-- The book is the one that the scene has after the stop, and what the member had reserved is given up if it was up.
abbrev pub stopped_at : {P C : Type 0} → Scene → MemberId → Parts P C → Parts P C
stopped_at S m x = record x {
  book = (stop S m).next.book;
  reserved = if is_up S m then reserved_after_stop m x.reserved else x.reserved;
}

module _ {P C : Type 0} {plants : PlantGhosts P} {steadies : SteadyGhosts C} {copies : CopyGhosts C} where
  abbrev pub Stops : MemberId → Complex P C plants steadies copies → Complex P C plants steadies copies → Type 0
  Stops m x y = (S : Scene) → IsAt S (parts_of x) → parts_of y ≡ stopped_at S m (parts_of x)

  -- a stop of the member was armed where it is up, and else the plant is as it was
  abbrev pub ArmsIf : Bool → MemberId → Complex P C plants steadies copies → Complex P C plants steadies copies → Type 0
  ArmsIf true m x y = Arms m.0 (plants.view x.plant) (plants.view y.plant)
  ArmsIf false m x y = y.plant ≡ x.plant

  abbrev pub ArmsStop : MemberId → Complex P C plants steadies copies → Complex P C plants steadies copies → Type 0
  ArmsStop m x y = (S : Scene) → IsAt S (parts_of x) → ArmsIf (is_up S m) m x y
