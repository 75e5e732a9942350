use Rattle.std.proofs.Common.{Some, arith}
use Rattle.page_marks.proofs.MarkLemmas.{touch_job}
use Rattle.queue_effect.proofs.FitLemmas.{job_put_fit}
use Rattle.queue_effect.proofs.OrderLemmas.{job_put_orders}
use Rattle.queue_effect.proofs.lookups.put_job.Goals as goal

pub returns-clause-fit : goal.returns-clause-fit
returns-clause-fit c = λ x here keeps fit. job_put_fit c.args.tables.now c.args.at x c.args.job here keeps fit

pub returns-clause-orders : goal.returns-clause-orders
returns-clause-orders c = λ x here same. job_put_orders c.args.tables.now c.args.at x c.args.job here same

pub returns-clause-touches : goal.returns-clause-touches
returns-clause-touches c fit =
    let t = c.args.tables.now in
    let shape = fit.shape in
    rw c.put_job.ensures (touch_job c.args.marks.now.pages t c.args.at (Some c.args.job) (omega (arith, c.args.marks.now.many, shape.jobs, shape.outputs, shape.config.jobs.1, shape.config.outputs.1, c.requires)))
