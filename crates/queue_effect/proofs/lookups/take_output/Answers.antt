use Rattle.std.proofs.Common.{None, arith}
use Rattle.page_marks.proofs.MarkLemmas.{touch_output}
use Rattle.queue_effect.proofs.FitLemmas.{output_taken_fit}
use Rattle.queue_effect.proofs.OrderLemmas.{output_taken_orders}
use Rattle.queue_effect.proofs.lookups.take_output.Goals as goal

pub returns-clause-fit : goal.returns-clause-fit
returns-clause-fit c = output_taken_fit c.args.tables.now c.args.at

pub returns-clause-orders : goal.returns-clause-orders
returns-clause-orders c = output_taken_orders c.args.tables.now c.args.at

pub returns-clause-touches : goal.returns-clause-touches
returns-clause-touches c fit =
    let t = c.args.tables.now in
    let shape = fit.shape in
    rw c.put_output.ensures (touch_output c.args.marks.now.pages t c.args.at None (omega (arith, c.args.marks.now.many, shape.jobs, shape.outputs, shape.config.jobs.1, shape.config.outputs.1, c.requires)))
