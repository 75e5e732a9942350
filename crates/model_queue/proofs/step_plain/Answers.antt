use Rattle.model_queue.proofs.step_plain.Goals as goal

pub returns-in-Ended-clause-ok : goal.returns-in-Ended-clause-ok
returns-in-Ended-clause-ok c = rw c.in-Ended.is c.ended.ensures.ok

pub returns-in-Done-clause-ok : goal.returns-in-Done-clause-ok
returns-in-Done-clause-ok c = rw c.in-Done.is c.done.ensures

pub returns-in-Cancel-clause-ok : goal.returns-in-Cancel-clause-ok
returns-in-Cancel-clause-ok c = rw c.in-Cancel.is c.cancel.ensures

pub returns-in-CancelOut-clause-ok : goal.returns-in-CancelOut-clause-ok
returns-in-CancelOut-clause-ok c = rw c.in-CancelOut.is c.cancel_out.ensures
