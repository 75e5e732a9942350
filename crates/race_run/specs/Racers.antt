-- A member's pass, and what its run of the member's lines makes of it.
use Rattle.std.specs.Prelude.{◌≡◌, ◌<◌, true, false, List, Result}
use Rattle.mas_types.specs.declared.ids.MemberId.{MemberId}
use Rattle.script_lang.specs.declared.types.Step.{Step}
use Rattle.spool_plant.specs.View.{View as Shown}
use Rattle.spool_plant.specs.declared.plant.Plant.{Ghosts as PlantGhosts}
use Rattle.ckpt_copy.specs.declared.copying.Copying.{Ghosts as CopyGhosts}
use Rattle.ckpt_form.specs.declared.steady.Steady.{Ghosts as SteadyGhosts}
use Rattle.mas_complex.specs.declared.complex.Complex.{Complex}
use Rattle.gate_facts.specs.Ways.{EachWay}
use Rattle.member_gate.specs.Marking.{single}
use Rattle.member_gate.specs.Passes.{view}
use Rattle.member_gate.specs.declared.pass.Pass.{Pass}
use Rattle.member_gate.specs.Views.{memory_in}
use Rattle.member_gate.specs.declared.view.View.{View}
use Rattle.member_node.specs.declared.member.Member.{Member}
use Rattle.member_node.specs.declared.member.NodeNo.{NodeNo}
use Rattle.mas_race.specs.Beginnings.{Began}
use Rattle.mas_race.specs.Passings.{found_by}
use Rattle.race_turns.specs.Races.{lines_of}
use Rattle.race_run.specs.Races.{seen_in}
use Rattle.race_run.specs.Racing.{AreAsked, AreRaced, IsCausedIn, MayOpen}

-- The member may begin with any of its lines on each value that its pass may find, of those that lie in the gate, and
-- its lines are within the limits. The pass is the member's own, and hasn't the turn.
pub record MayRaceWithin {V P C : Type 0} {plants : PlantGhosts P} {steadies : SteadyGhosts C} {copies : CopyGhosts C}
    (p : Pass V) (value : V → Complex P C plants steadies copies) (b : Began) (m : Member) (steps : List Step) : Type 0
  where
    pub free : (view p).has ≡ false
    pub member : (view p).member ≡ m.id.0
    pub somebody : 0 < m.id.0
    pub cares : (view p).cares ≡ single m.id.0
    pub first : (x : Complex P C plants steadies copies) → found_by b (view p) x → MayOpen x m 1
    pub asked : AreAsked (memory_in (view p) false).base m.id (lines_of m.id 1 steps)

-- what the run of its lines makes of the pass
pub record RacedWith (tells : Type 0) (entry : Shown) (v w : View) (m : MemberId) (steps : List Step)
    (answer : Result (Unit {0}) NodeNo) : Type 0 where
  pub free : w.has ≡ false
  pub member : w.member ≡ v.member
  pub cares : w.cares ≡ v.cares
  pub base : EachWay tells (λ told. (memory_in w told).base ≡ (memory_in v told).base)
  pub caused : IsCausedIn entry (memory_in w false) answer
  pub raced : tells → AreRaced (memory_in v true).base m (seen_in (memory_in v true).base entry m) 1 steps
      (memory_in v true) (memory_in w true) answer
