use Rattle.std.proofs.Common.{◌≡◌, ◌+◌, Some, None, length, set, sym, ap, ◌∙◌}
use Rattle.std.specs.Prelude.{is_none, position}
use Rattle.std.proofs.lemmas.List.{length-set}
use Rattle.std.proofs.lemmas.Option.{slice_get_within}
use Rattle.mas_types.specs.declared.queues.Config.{Config}
use Rattle.queue_slots.proofs.Changes.{all_used, free_at}
use Rattle.job_queue.specs.Jobs.{new_rec}
use Rattle.job_queue.proofs.JobLemmas.{length-jobs}
use Rattle.page_marks.proofs.MarkLemmas.{touches_none}
use Rattle.queue_effect.proofs.FitLemmas.{job_added_fit, refill_whole}
use Rattle.queue_effect.proofs.OrderLemmas.{job_added_orders}
use Rattle.queue_effect.proofs.Marking.{job_added_touched}
use Rattle.queue_effect.proofs.input.add_job.Goals as goal

pub returns-clause-fits : goal.returns-clause-fits
returns-clause-fits c =
    let t = c.args.tables.now in
    let placed = c.in_ok-job.ensures.placed in
    let r = new_rec c.args.by c.in_ok-job.job c.args.fields.now t.order in
    let is : c.add.new.jobs ≡ set t.jobs placed.0 (Some r) = placed.2 ∙ ap (λ js. set js placed.0 (Some r)) c.as_mut_slice.ensures.value in
    rw (refill_whole t.jobs c.add.new.jobs (sym (ap length is ∙ length-set t.jobs placed.0 (Some r))))
    (job_added_fit t c.requires.fit c.args.by c.in_ok-job.job c.args.fields.now placed.0 c.add.new.jobs c.requires.member c.in_ok-job.ensures.small is)

pub returns-clause-orders : goal.returns-clause-orders
returns-clause-orders c = λ had.
    let t = c.args.tables.now in
    let placed = c.in_ok-job.ensures.placed in
    let r = new_rec c.args.by c.in_ok-job.job c.args.fields.now t.order in
    let is : c.add.new.jobs ≡ set t.jobs placed.0 (Some r) = placed.2 ∙ ap (λ js. set js placed.0 (Some r)) c.as_mut_slice.ensures.value in
    rw (refill_whole t.jobs c.add.new.jobs (sym (ap length is ∙ length-set t.jobs placed.0 (Some r))), is) (job_added_orders t.jobs t.outputs placed.0 r had)

pub returns-in_default-clause-full : goal.returns-in_default-clause-full
returns-in_default-clause-full c = λ Q stands.
    let t = c.args.tables.now in
    let none : position is_none t.jobs ≡ None = rw c.as_slice.ensures at (sym c.free_slot.ensures ∙ c.in_default.is) in
    sym (length-jobs t.jobs Q.jobs stands.jobs) ∙ all_used t.jobs none ∙ c.requires.fit.shape.jobs ∙ ap (λ (g : Config). g.jobs) (sym stands.config)

pub returns-in_err-job-clause-touches : goal.returns-in_err-job-clause-touches
returns-in_err-job-clause-touches c fit =
    let t = c.args.tables.now in
    let same : c.add.new.jobs ≡ t.jobs = rw c.as_mut_slice.ensures.value at c.in_err-job.ensures.unchanged in
    rw (refill_whole t.jobs c.add.new.jobs (sym (ap length same)), same) (touches_none c.args.marks.now.pages t)

pub returns-clause-touches : goal.returns-clause-touches
returns-clause-touches c fit =
    let t = c.args.tables.now in
    let placed = c.in_ok-job.ensures.placed in
    let r = new_rec c.args.by c.in_ok-job.job c.args.fields.now t.order in
    let free : position is_none t.jobs ≡ Some placed.0 = rw c.as_mut_slice.ensures.value at placed.1 in
    let here : position is_none t.jobs ≡ Some c.in-Some.at = rw c.as_slice.ensures at (sym c.free_slot.ensures ∙ c.in-Some.is) in
    let same : c.in-Some.at ≡ placed.0 = cc in
    let is : c.add.new.jobs ≡ set t.jobs placed.0 (Some r) = placed.2 ∙ ap (λ js. set js placed.0 (Some r)) c.as_mut_slice.ensures.value in
    rw (c.put.ensures, c.put_job.ensures, refill_whole t.jobs c.add.new.jobs (sym (ap length is ∙ length-set t.jobs placed.0 (Some r))), is, same)
    (job_added_touched c.args.marks.now.pages c.args.marks.now.many t fit placed.0 (Some r) c.in_ok-job.job (t.order + 1) (slice_get_within t.jobs placed.0 None (free_at t.jobs placed.0 free)))
