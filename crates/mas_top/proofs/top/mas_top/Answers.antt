use Rattle.mas_top.proofs.top.mas_top.Goals as goal

pub returns-clause-race : goal.returns-clause-race
returns-clause-race g c = c.race_top.ensures.race

pub returns-clause-calm : goal.returns-clause-calm
returns-clause-calm g c = c.race_top.ensures.calm
