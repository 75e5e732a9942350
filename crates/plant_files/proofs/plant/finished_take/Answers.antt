use Rattle.std.proofs.Common.{refl, subst}
use Rattle.spool_plant.specs.declared.plant.Act.{Act}
use Rattle.spool_plant.specs.Acts.{Acts}
use Rattle.plant_files.specs.FileView.{tally_view}
use Rattle.plant_files.proofs.plant.finished_take.Goals as goal

pub returns-clause-acts : goal.returns-clause-acts
returns-clause-acts c by = subst (λ (r : Act). Acts by c.args.part (tally_view c.args.tally.now) (tally_view c.end_act.new.self) r) (c.end_act.ensures.done refl) (c.end_act.ensures.acts by)
