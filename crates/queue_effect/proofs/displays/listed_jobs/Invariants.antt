use Rattle.std.proofs.Common.{◌≡◌, map, take}
use Rattle.queue_effect.specs.Gone.{job_of}
use Rattle.queue_effect.proofs.displays.listed_jobs.Given as goal

-- the jobs of the items so far
abbrev pub invariant-loop-job : goal.invariant-loop-job
invariant-loop-job l = l.jobs ≡ map job_of (take l.job-index l.job-items)
