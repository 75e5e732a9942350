use Rattle.std.proofs.Common.{arith}
use Rattle.queue_effect.proofs.OneJob.{outputs_kept_named, says_one}
use Rattle.queue_effect.proofs.displays.job_part.Goals as goal

pub returns-clause-named : goal.returns-clause-named
returns-clause-named c =
    rw (c.jobs_part.ensures, c.in_ok-outputs.ensures, c.slots_to-slots.ensures, c.as_slice.ensures)
    record { jobs = c.in_ok-jobs.ensures.named; outputs = outputs_kept_named c.args.tables.now c.requires.fit c.args.job; members = omega arith }

pub returns-clause-same : goal.returns-clause-same
returns-clause-same c = λ Q stands.
    rw (c.jobs_part.ensures, c.in_ok-outputs.ensures, c.slots_to-slots.ensures, c.as_slice.ensures)
    (says_one c.args.tables.now c.requires.fit c.args.job Q stands c.in_ok-jobs.jobs (c.in_ok-jobs.ensures.same Q stands))
