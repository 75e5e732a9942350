use Rattle.plant_files.proofs.plant.FilePlantPlant.write.Goals as goal

pub returns-then-not-may_act-clause-acts : goal.returns-then-not-may_act-clause-acts
returns-then-not-may_act-clause-acts g c = c.end_act.ensures.acts c.args._by.0

pub returns-clause-acts : goal.returns-clause-acts
returns-clause-acts g c = c.end_act-2.ensures.acts c.args._by.0
