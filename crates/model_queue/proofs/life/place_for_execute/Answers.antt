use Rattle.mas_types.specs.Selection.{has_class, job_prio, may_execute}
use Rattle.model_queue.proofs.Best.{no_key}
use Rattle.model_queue.proofs.life.place_for_execute.Goals as goal

pub returns-in-Some-clause-some : goal.returns-in-Some-clause-some
returns-in-Some-clause-some c = rw c.in-Some.ensures c.best_place_by_class.ensures.some

pub returns-in-Some-clause-none : goal.returns-in-Some-clause-none
returns-in-Some-clause-none c = rw c.in-Some.ensures c.best_place_by_class.ensures.none

pub returns-in-None-clause-none : goal.returns-in-None-clause-none
returns-in-None-clause-none c = rw c.in-None.ensures (no_key has_class may_execute c.args.queue.now.jobs job_prio)
