use Rattle.std.proofs.Common.{◌≡◌, ◌++◌, map, take}
use Rattle.mas_types.specs.Shown.{job_line}
use Rattle.cmd_report.proofs.displays.push_jobs.Given as goal

-- the lines of the jobs so far
abbrev pub invariant-loop-job : goal.invariant-loop-job
invariant-loop-job l = l.lines ≡ l.initial.lines ++ map job_line (take l.job-index l.jobs)
