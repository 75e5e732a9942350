-- What a pass that takes turns may find.
use Rattle.std.specs.Prelude.{◌≡◌, ℕ, Bool, true, false, List, Option, Some, None, is_some, if◌then◌else◌, refl}
use Rattle.std.specs.Borrow.{GName}
use Rattle.atomic_table.specs.Seated.{TableId}
use Rattle.spool_plant.specs.declared.plant.Plant.{Ghosts as PlantGhosts}
use Rattle.ckpt_copy.specs.declared.copying.Copying.{Ghosts as CopyGhosts}
use Rattle.ckpt_form.specs.declared.steady.Steady.{Ghosts as SteadyGhosts}
use Rattle.mas_complex.specs.declared.complex.Complex.{Complex}
use Rattle.mas_complex.specs.Parts.{shown_of}
use Rattle.gate_facts.specs.Memory.{Knows}
use Rattle.gate_facts.specs.Ways.{EachWay}
use Rattle.gate_turns.specs.Shared.{facts_of}
use Rattle.member_gate.specs.declared.pass.Pass.{Pass}
use Rattle.member_gate.specs.declared.view.View.{View}
use Rattle.member_gate.specs.Passes.{view}
use Rattle.member_gate.specs.Views.{Finds, memory_by, sees}
use Rattle.mas_race.specs.Beginnings.{Began, IsFrom}
use Rattle.mas_race.specs.Between.{BetweenTurns}

-- the reference by which a pass takes turns, the gate that it is of, its member, and the members of which it knows the
-- begun entries and the lines
pub record PassPlace : Type 0 where
  pub name : GName
  pub gate : TableId
  pub member : ℕ
  pub cares : List Bool

abbrev pub at_pass : {V : Type 0} → GName → Pass V → PassPlace
at_pass name p = record { name = name; gate = p.seat.table_id; member = (view p).member; cares = (view p).cares }

-- a turn's value is here, another one instead
pub held_within : {A : Type 0} (has : Bool) (was : Option A) (x : A) → is_some (if has then was else None) ≡ true
    → (if has then Some x else None) ≡ Some x
held_within true was x held = refl
held_within false was x held = absurd (cc)

module _ {P C : Type 0} {plants : PlantGhosts P} {steadies : SteadyGhosts C} {copies : CopyGhosts C} where
  -- what holds of a value between two turns of a race that began so
  pub record RestsAs (b : Began) (x : Complex P C plants steadies copies) : Type 0 where
    pub between : BetweenTurns x
    pub from : IsFrom b x

  -- a pass that knows this may find that value at its turn
  pub record found_by (b : Began) (v : View) (x : Complex P C plants steadies copies) : Type 0 where
    pub rest : RestsAs b x
    pub finds : Finds plants.tells v (λ told. facts_of told (shown_of x))

  -- A pass of this place that gave back the first value may find the second at its next turn: of what it knows then
  -- nothing has changed.
  pub record found_after (b : Began) (p : PassPlace) (x y : Complex P C plants steadies copies) : Type 0 where
    pub rest : RestsAs b y
    pub knows : EachWay plants.tells (λ told.
        Knows p.member (memory_by p.cares (sees p.member (facts_of told (shown_of x)))) (facts_of told (shown_of y)))
