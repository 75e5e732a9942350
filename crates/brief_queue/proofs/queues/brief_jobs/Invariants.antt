use Rattle.std.proofs.Common.{◌≡◌, take}
use Rattle.brief_queue.proofs.queues.brief_jobs.Given as goal

-- the jobs so far
abbrev pub invariant-loop-job : goal.invariant-loop-job
invariant-loop-job l = l.brief ≡ take l.job-index l.jobs
