use Rattle.page_marks.proofs.MarkLemmas.{touches_then}
use Rattle.queue_effect.proofs.wire.acknowledge.Goals as goal

pub returns-clause-fits : goal.returns-clause-fits
returns-clause-fits c =
    c.put_sent.ensures.fit (c.put_job.ensures.fit c.in-Some-current_on.found.item c.in-Some-current_on.ensures.here (c.in_phase_of.ensures.fit c.args.tables.now.order) c.requires.fit)

pub returns-clause-orders : goal.returns-clause-orders
returns-clause-orders c = λ had.
    c.put_sent.ensures.orders (c.put_job.ensures.orders c.in-Some-current_on.found.item c.in-Some-current_on.ensures.here c.in_phase_of.ensures.same_order had)

pub returns-clause-touches : goal.returns-clause-touches
returns-clause-touches c fit =
    let after = c.put_job.ensures.fit c.in-Some-current_on.found.item c.in-Some-current_on.ensures.here (c.in_phase_of.ensures.fit c.args.tables.now.order) fit in
    touches_then _ _ _ _ _ _ (c.put_job.ensures.touches fit) (c.put_sent.ensures.touches after)
