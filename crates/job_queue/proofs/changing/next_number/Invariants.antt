use Rattle.std.proofs.Common.{◌≡◌, ◌≤◌, List, length}
use Rattle.mas_types.specs.declared.jobs.Job.{Job}
use Rattle.mas_types.specs.Limits.{number_most}
use Rattle.mas_types.specs.Number.{free_from, after}
use Rattle.job_queue.specs.Jobs.{AreJobs}
use Rattle.job_queue.proofs.changing.next_number.Given as goal

-- the search from this number on finds the same number as the whole search
abbrev pub invariant-loop-more : goal.invariant-loop-more
invariant-loop-more l = record {
  small : l.n ≤ number_most;
  same : (js : List Job) → AreJobs l.jobs js → free_from js l.n l.more ≡ free_from js (after l.fn.last.0) (length js);
}

abbrev pub decreases-loop-more : goal.decreases-loop-more
decreases-loop-more l = l.more
