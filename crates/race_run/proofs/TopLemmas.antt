-- A race from its script on.
use Rattle.std.proofs.Common.{inl, Bool, List}
use Rattle.mas_types.specs.declared.answers.Status.{Status}
use Rattle.mas_types.specs.declared.journals.Journal.{Journal}
use Rattle.script_lang.specs.declared.types.Script.{Script}
use Rattle.spool_plant.specs.View.{View}
use Rattle.spool_plant.specs.declared.plant.Plant.{Ghosts as PlantGhosts}
use Rattle.ckpt_copy.specs.declared.copying.Copying.{Ghosts as CopyGhosts}
use Rattle.ckpt_form.specs.declared.steady.Steady.{Ghosts as SteadyGhosts}
use Rattle.mas_complex.specs.declared.complex.Complex.{Complex}
use Rattle.member_node.specs.declared.member.Member.{Member}
use Rattle.run_opening.specs.Lines.{Proceeds}
use Rattle.run_opening.specs.Openings.{at_end, IsOpenRun}
use Rattle.race_run.specs.Races.{IsRace, IsRaceOf}

-- a race from where its lines begin
pub race_of_lines : {P C : Type 0} {plants : PlantGhosts P} {steadies : SteadyGhosts C} {copies : CopyGhosts C} (cold : Bool) (script : Script) (old : View) (x : Complex P C plants steadies copies) (ms : List Member)
    → IsOpenRun cold plants.tells script old x ms → (answer : Status) (journal : Journal) (new : View) → Proceeds (at_end x) new
    → IsRaceOf plants.tells script.steps answer x.base x.journal.batches journal x.since (at_end x) new → IsRace cold plants.tells script answer x.base journal x.since old new
race_of_lines cold script old x ms o answer journal new goes race = record {
  first = o.first;
  lost = o.lost new;
  lost_on = λ d. o.lost_on new d (race.stays d);
  begun = o.begun new goes;
  race = inl (record { opening = x.journal.batches; entry = at_end x; opened = o.opened; race = race });
}
