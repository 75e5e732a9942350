use Rattle.mas_tasks.proofs.inspecting.say_answer.Goals as goal

pub returns-clause-says : goal.returns-clause-says
returns-clause-says g c = rw (c.unbegun.ensures.plant, c.unbegun.ensures.status) c.say_lines-status.ensures
