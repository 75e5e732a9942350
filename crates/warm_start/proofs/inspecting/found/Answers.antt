use Rattle.warm_start.proofs.inspecting.found.Goals as goal

pub returns-clause-queue : goal.returns-clause-queue
returns-clause-queue g c = c.find_queue.ensures.queue

pub returns-clause-none : goal.returns-clause-none
returns-clause-none g c = c.find_queue.ensures.none
