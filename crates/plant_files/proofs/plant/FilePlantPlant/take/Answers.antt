use Rattle.std.proofs.Common.{length}
use Rattle.plant_files.proofs.plant.FilePlantPlant.take.Goals as goal

pub returns-then-not-may_act-clause-acts : goal.returns-then-not-may_act-clause-acts
returns-then-not-may_act-clause-acts g c = c.failed_take.ensures.acts c.args._by.0

pub returns-then-not-may_act-clause-fits : goal.returns-then-not-may_act-clause-fits
returns-then-not-may_act-clause-fits g c = c.failed_take.ensures.fits (length c.args.into.now)

pub returns-in-Ok-clause-acts : goal.returns-in-Ok-clause-acts
returns-in-Ok-clause-acts g c = c.finished_take.ensures.acts c.args._by.0

pub returns-in-Err-clause-acts : goal.returns-in-Err-clause-acts
returns-in-Err-clause-acts g c = c.failed_take-in-Err.ensures.acts c.args._by.0

pub returns-in-Err-clause-fits : goal.returns-in-Err-clause-fits
returns-in-Err-clause-fits g c = c.failed_take-in-Err.ensures.fits (length c.args.into.now)
