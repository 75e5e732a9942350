use Rattle.queue_effect.proofs.Marking.{jobs_touched}
use Rattle.std.proofs.lemmas.List.{length-map}
use Rattle.lay_bytes.specs.declared.records.JobRec.{JobRec}
use Rattle.queue_resets.specs.Resets.{is_one_of, job_reset}
use Rattle.queue_resets.specs.Resets.{changed_where}
use Rattle.queue_effect.specs.Standing.{IsFitJob}
use Rattle.std.proofs.Common.{Bool, map, refl}
use Rattle.queue_effect.proofs.FitLemmas.{jobs_fit, used_changed, reset_job_fit, refill_map}
use Rattle.queue_effect.proofs.OrderLemmas.{jobs_changed_orders}
use Rattle.queue_effect.proofs.members.reset_jobs.Goals as goal

pub returns-clause-fit : goal.returns-clause-fit
returns-clause-fit c = λ fit.
    let t = c.args.tables.now in
    let f = changed_where (λ (r : JobRec). is_one_of c.args.who r.busy) job_reset in
    rw (refill_map t.jobs c.reset_job_slots.new.slots f (rw c.as_mut_slice.ensures.value at c.reset_job_slots.ensures))
    (jobs_fit t fit (map f t.jobs) (length-map t.jobs f) (used_changed (IsFitJob t.order) (λ (r : JobRec). is_one_of c.args.who r.busy) job_reset (reset_job_fit t.order) t.jobs fit.jobs))

pub returns-clause-orders : goal.returns-clause-orders
returns-clause-orders c = λ had.
    let t = c.args.tables.now in
    let test : JobRec → Bool = λ r. is_one_of c.args.who r.busy in
    rw (refill_map t.jobs c.reset_job_slots.new.slots (changed_where test job_reset) (rw c.as_mut_slice.ensures.value at c.reset_job_slots.ensures)) (jobs_changed_orders t test job_reset (λ r. refl) had)

pub returns-clause-touches : goal.returns-clause-touches
returns-clause-touches c fit = jobs_touched c.args.marks.now.pages c.put_jobs.new.self.pages c.args.marks.now.many c.args.tables.now fit _ c.put_jobs.ensures
