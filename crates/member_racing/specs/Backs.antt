-- What a turn of a race hands back.
use Rattle.std.specs.Prelude.{◌≡◌, true, Bool, List}
use Rattle.mas_types.specs.declared.ids.MemberId.{MemberId}
use Rattle.spool_plant.specs.declared.plant.Plant.{Ghosts as PlantGhosts}
use Rattle.ckpt_copy.specs.declared.copying.Copying.{Ghosts as CopyGhosts}
use Rattle.ckpt_form.specs.declared.steady.Steady.{Ghosts as SteadyGhosts}
use Rattle.mas_complex.specs.declared.complex.Complex.{Complex}
use Rattle.mas_complex.specs.Parts.{shown_of}
use Rattle.gate_facts.specs.Memory.{MayGiveBack}
use Rattle.gate_facts.specs.Values.{marked_at}
use Rattle.gate_facts.specs.Ways.{EachWay}
use Rattle.gate_turns.specs.Shared.{facts_of}

module _ {P C : Type 0} {plants : PlantGhosts P} {steadies : SteadyGhosts C} {copies : CopyGhosts C} where
  -- The member may hand the second value back where it took the first, for whomever it cares besides itself: what is
  -- another member's is as it was.
  abbrev pub MayGoBack : MemberId → Complex P C plants steadies copies → Complex P C plants steadies copies → Type 0
  MayGoBack by x y = (cares : List Bool) → marked_at cares by.0 ≡ true → EachWay plants.tells
      (λ told. MayGiveBack by.0 cares (facts_of told (shown_of x)) (facts_of told (shown_of y)))
