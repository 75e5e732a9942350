use Rattle.std.proofs.Common.{sym, ◌∙◌}
use Rattle.queue_slots.proofs.Changes.{all_used, free_at, some_free}
use Rattle.job_queue.proofs.JobLemmas.{length-jobs, jobs-added}
use Rattle.job_queue.proofs.changing.add.Goals as goal

pub returns-in_default-clause-full : goal.returns-in_default-clause-full
returns-in_default-clause-full c = λ js are.
    sym (length-jobs c.args.jobs.now js are) ∙ all_used c.args.jobs.now (sym c.free_slot.ensures ∙ c.in_default.is)

pub returns-clause-added : goal.returns-clause-added
returns-clause-added c = λ js are.
    rw c.new_record.ensures
    (jobs-added c.args.jobs.now c.in-Some.at js c.args.by c.next_number-number.result c.args.fields.now c.args.order
    (free_at c.args.jobs.now c.in-Some.at (sym c.free_slot.ensures ∙ c.in-Some.is)) c.requires.above are)

pub returns-clause-room : goal.returns-clause-room
returns-clause-room c = λ js are.
    rw (← length-jobs c.args.jobs.now js are)
    (some_free c.args.jobs.now c.in-Some.at (free_at c.args.jobs.now c.in-Some.at (sym c.free_slot.ensures ∙ c.in-Some.is)))
